-- The distinct items of a list, in order.
use Rattle.std.specs.Prelude.{◌≡◌, All, List, Some, filter, slice_get}
use Rattle.std.specs.List.{Any, Contains}
use Rattle.std.specs.Ordering.{is_eq}
use Rattle.std.specs.declared.cmp.Ordering.{Ordering}
use Rattle.std.specs.declared.cmp.Ordering.TheVariants.{Equal}
use Rattle.range_merge.specs.Boundaries.{IsAscending}

-- the items are strictly sorted, each is one of the list, and each of the list is equal to one of
-- them
pub record AreDistinctOf {K : Type 0} (order : K → K → Ordering)
    (list items : List K) : Type 0 where
  pub sorted : IsAscending order items
  pub taken : (x : K) → Contains items x → Contains list x
  pub kept : (x : K) → Contains list x → Any (λ y. order x y ≡ Equal) items

-- of the items of the list that are equal to it, each is the first
abbrev pub AreFirstOf : {K : Type 0} → (K → K → Ordering) → List K → List K → Type 0
AreFirstOf order list items =
    All (λ x. slice_get (filter (λ y. is_eq (order x y)) list) 0 ≡ Some x) items

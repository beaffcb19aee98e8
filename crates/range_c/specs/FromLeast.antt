-- Connectives that may be on where neither side is: told of the numbers from the least one on.
--     MeansFrom order least f items a b        the one list whose members from the least number on are f of those of a and b
--     AnswersFrom order least f a b old new n  that list has n items, and stands in the buffer where that has room
use Rattle.std.specs.Prelude.{◌≡◌, ℕ, ◌≤◌, true, List, All, length, take, drop}
use Rattle.std.specs.Ordering.{is_le}
use Rattle.std.specs.declared.cmp.Ordering.{Ordering}
use Rattle.range_collections.specs.Boundaries.{IsAscending, member}
use Rattle.range_collections.specs.Connective.{Table}

module _ {K : Type 0} (order : K → K → Ordering) (least : K) (f : Table) where
  -- the items are strictly sorted, none is below the least number, and from there on their members
  -- are f of the members of a and of b
  pub record MeansFrom (items a b : List K) : Type 0 where
    pub sorted : IsAscending order items
    pub from : All (λ y. is_le (order least y) ≡ true) items
    pub members : (x : K) → is_le (order least x) ≡ true →
        member order items x ≡ f (member order a x) (member order b x)

  -- n is the length of the one such list. Where the buffer is long enough it begins with that list,
  -- and after it the buffer is as it was
  pub record AnswersFrom (a b old new : List K) (n : ℕ) : Type 0 where
    pub counted : (items : List K) → MeansFrom items a b → n ≡ length items
    pub means : n ≤ length old → MeansFrom (take n new) a b
    pub after : n ≤ length old → drop n new ≡ drop n old

-- A set as a list of boundaries: which elements are members.
--     IsAscending order items     the list is strictly sorted
--     count_up_to order items x   how many items are at or below x
--     member order items x        x is a member
--     IsSameSet order a b         both lists have the same members
use Rattle.std.specs.Prelude.{◌≡◌, ℕ, ◌%◌, ◌==◌, Bool, List, length, filter, AllPairs}
use Rattle.std.specs.declared.cmp.Ordering.{Ordering}
use Rattle.std.specs.declared.cmp.Ordering.TheVariants.{Less}
use Rattle.std.specs.Ordering.{is_le, is_lt}

-- the number is odd
abbrev pub is_odd : ℕ → Bool
is_odd n = (n % 2) == 1

module _ {K : Type 0} (order : K → K → Ordering) where
  -- each item is below every later one
  abbrev pub IsAscending : List K → Type 0
  IsAscending items = AllPairs (λ x y. order x y ≡ Less) items

  -- how many items are at or below x
  unfoldable pub count_up_to : List K → K → ℕ
  count_up_to items x = length (filter (λ y. is_le (order y x)) items)

  -- how many items are strictly below x
  unfoldable pub count_below : List K → K → ℕ
  count_below items x = length (filter (λ y. is_lt (order y x)) items)

  -- x is a member: the number of items at or below it is odd
  abbrev pub member : List K → K → Bool
  member items x = is_odd (count_up_to items x)

  -- both lists have the same members
  abbrev pub IsSameSet : List K → List K → Type 0
  IsSameSet a b = (x : K) → member a x ≡ member b x

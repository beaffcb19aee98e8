-- The elements of a range without an end that are members.
--     HasAllFrom order items start        every element at or above start is a member
--     HasMemberFrom order items start     some element at or above start is a member
use Rattle.std.specs.Prelude.{◌≡◌, true, List}
use Rattle.std.specs.Ordering.{is_le}
use Rattle.std.specs.declared.cmp.Ordering.{Ordering}
use Rattle.range_merge.specs.Boundaries.{member}

module _ {K : Type 0} (order : K → K → Ordering) where
  -- every element at or above the start is a member
  abbrev pub HasAllFrom : List K → K → Type 0
  HasAllFrom items start = (x : K) → is_le (order start x) ≡ true → member order items x ≡ true

  -- some element at or above the start is a member
  abbrev pub HasMemberFrom : List K → K → Type 0
  HasMemberFrom items start = (x : K) × (is_le (order start x) ≡ true) × (member order items x ≡ true)

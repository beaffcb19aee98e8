-- How many values are members of a set, of values that stand in a row.
--     members_below order value items n       how many of the first n values are members
--     covered_of order value count items      how many values are members, where the set has an end
use Rattle.std.specs.Prelude.{ℕ, zero, suc, ◌+◌, cond, List, length, Option, Some, None}
use Rattle.std.specs.declared.cmp.Ordering.{Ordering}
use Rattle.range_merge.specs.Boundaries.{is_odd, member}

module _ {K : Type 0} (order : K → K → Ordering) (value : ℕ → K) where
  -- how many of the values at the places before n are members
  unfoldable pub members_below : List K → ℕ → ℕ
  members_below items zero = 0
  members_below items (suc n) = members_below items n + cond (member order items (value n)) 1 0

  -- how many of all the values are members, or none where the set has no end
  abbrev pub covered_of : ℕ → List K → Option ℕ
  covered_of count items = cond (is_odd (length items)) None (Some (members_below items count))

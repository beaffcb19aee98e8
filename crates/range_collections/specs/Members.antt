-- Members one by one, of values that stand in a row.
--     IsPrevious order is_value inside items from previous    previous is the greatest value at or below `from` that is a member exactly if `inside`
--     members_of order value items from count     the members among the `count` values from the place `from` on, in order
--     AreEnds order value count items first last  the places of two members: one of the first range, and one of the last
use Rattle.std.specs.Prelude.{◌≡◌, ℕ, ◌+◌, ◌<◌, ◌≤◌, Bool, true, not, List, filter, length, map}
use Rattle.std.specs.List.{range_with_len}
use Rattle.std.specs.declared.cmp.Ordering.{Ordering}
use Rattle.std.specs.declared.cmp.Ordering.TheVariants.{Less}
use Rattle.std.specs.Ordering.{is_le}
use Rattle.range_merge.specs.Boundaries.{IsAscending, count_up_to, member}

-- previous is the greatest value at or below `from` that is a member exactly if `inside`
pub record IsPrevious {K : Type 0} (order : K → K → Ordering) (is_value : K → Type 0)
    (inside : Bool) (items : List K) (from previous : K) : Type 0 where
  pub value : is_value previous
  pub at_or_below : is_le (order previous from) ≡ true
  pub is_there : member order items previous ≡ inside
  pub greatest : (x : K) → is_value x → order previous x ≡ Less → is_le (order x from) ≡ true →
      member order items x ≡ not inside

module _ {K : Type 0} (order : K → K → Ordering) (value : ℕ → K) where
  -- those of the `count` values from the place `from` on that are members, in order
  unfoldable pub members_of : List K → ℕ → ℕ → List K
  members_of items from count = filter (member order items) (map value (range_with_len from count))

  -- the values at these places, in this order, are members, the first of the first range and the
  -- last of the last
  pub record AreEnds (count : ℕ) (items : List K) (first last : ℕ) : Type 0 where
    pub sorted : IsAscending order items
    pub ordered : first ≤ last
    pub fits : last < count
    pub in_first : count_up_to order items (value first) ≡ 1
    pub is_member : member order items (value last) ≡ true
    pub in_last : length items ≤ count_up_to order items (value last) + 1

-- Where a set begins and ends, and the elements of a range that are members.
--     IsSpan ranges s                             s starts as the first of the ranges does, and ends as the last one
--     HasAllWithin order items start end          every element at or above start and below end is a member
--     IsNext order inside items from next         next is the least element at or above `from` that is a member exactly if `inside`
use Rattle.std.specs.Prelude.{◌≡◌, Bool, true, not, List, Some, None, slice_get}
use Rattle.std.specs.List.{last_or}
use Rattle.std.specs.declared.cmp.Ordering.{Ordering}
use Rattle.std.specs.declared.cmp.Ordering.TheVariants.{Less}
use Rattle.std.specs.Ordering.{is_le}
use Rattle.range_merge.specs.Boundaries.{member}
use Rattle.range_collections.specs.Ranges.{range_start, range_end}
use Rattle.range_collections.specs.declared.range_set_range.RangeSetRange.{RangeSetRange}

-- s starts as the first of the ranges does, and it ends as the last one does, or has no end where
-- that has none
pub record IsSpan {K : Type 0} (ranges : List (RangeSetRange K))
    (s : RangeSetRange K) : Type 0 where
  pub first : RangeSetRange K
  pub last : RangeSetRange K
  pub is_first : slice_get ranges 0 ≡ Some first
  pub is_last : last_or None ranges ≡ Some last
  pub start : range_start s ≡ range_start first
  pub end : range_end s ≡ range_end last

-- every element at or above the start and below the end is a member
abbrev pub HasAllWithin : {K : Type 0} → (K → K → Ordering) → List K → K → K → Type 0
HasAllWithin {K} order items start end =
    (x : K) → is_le (order start x) ≡ true → order x end ≡ Less → member order items x ≡ true

-- next is the least element at or above `from` that is a member exactly if `inside`
pub record IsNext {K : Type 0} (order : K → K → Ordering) (inside : Bool) (items : List K)
    (from next : K) : Type 0 where
  pub at_or_above : is_le (order from next) ≡ true
  pub is_there : member order items next ≡ inside
  pub least : (x : K) → is_le (order from x) ≡ true → order x next ≡ Less →
      member order items x ≡ not inside

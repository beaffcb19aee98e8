-- Members of a set within a range.
--     HasMemberWithin order items start end     some member is at or above start and below end
use Rattle.std.specs.Prelude.{◌≡◌, ℕ, ◌<◌, true, List, length, slice_index_or}
use Rattle.std.specs.declared.cmp.Ordering.{Ordering}
use Rattle.std.specs.declared.cmp.Ordering.TheVariants.{Less}
use Rattle.std.specs.Ordering.{is_le}
use Rattle.range_merge.specs.Boundaries.{member}

module _ {K : Type 0} (order : K → K → Ordering) where
  -- some member is at or above the start and below the end
  abbrev pub HasMemberWithin : List K → K → K → Type 0
  HasMemberWithin items start end =
      (x : K) × (member order items x ≡ true) × (is_le (order start x) ≡ true)
      × (order x end ≡ Less)

  -- there is an item at place i, and it is below the end
  abbrev pub IsItemBelow : List K → ℕ → K → Type 0
  IsItemBelow items i end =
      (i < length items) × ((d : K) → order (slice_index_or items i d) end ≡ Less)

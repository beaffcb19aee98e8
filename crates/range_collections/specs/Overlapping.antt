-- The ranges of a set that share an element with a range.
--     overlaps order start end r     r shares an element with the range from start to end
use Rattle.std.specs.Prelude.{Bool, ◌&&◌}
use Rattle.std.specs.Ordering.{is_lt}
use Rattle.std.specs.declared.cmp.Ordering.{Ordering}
use Rattle.range_collections.specs.declared.range_set_range.RangeSetRange.{RangeSetRange}
use Rattle.range_collections.specs.declared.range_set_range.RangeSetRange.TheVariants.{Range, RangeFrom}

-- the start is below the end, and r begins below the end and ends above the start
abbrev pub overlaps : {K : Type 0} → (K → K → Ordering) → K → K → RangeSetRange K → Bool
overlaps order start end (Range r) =
    is_lt (order start end) && (is_lt (order r.start end) && is_lt (order start r.end))
overlaps order start end (RangeFrom r) = is_lt (order start end) && is_lt (order r.start end)

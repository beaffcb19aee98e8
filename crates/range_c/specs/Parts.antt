-- One range of a set, as a start, whether it has an end, and that.
--     range_told start end has_end    the range that these tell
--     TellsRange range ..             whether there is a range, which is told then
use Rattle.std.specs.Prelude.{◌≡◌, Bool, false, cond, Option, Some, None, IsTrue}
use Rattle.range_collections.specs.declared.range_set_range.RangeSetRange.{RangeSetRange}
use Rattle.range_collections.specs.declared.range_set_range.RangeSetRange.TheVariants.{Range, RangeFrom}

-- the range from the start on, up to the end where it has one
abbrev pub range_told : {K : Type 0} → K → K → Bool → RangeSetRange K
range_told start end has_end =
    cond has_end (Range (record { start = start; end = end }))
    (RangeFrom (record { start = start }))

-- an answer that is true where there is a range. That is told then, by its start, its end and
-- whether it has one: an end that it hasn't is as it was. Where there is none, all is as it was
pub record TellsRange {K : Type 0} (range : Option (RangeSetRange K)) (old_start old_end : K)
    (old_has_end : Bool) (start end : K) (has_end answer : Bool) : Type 0 where
  pub told : IsTrue answer → range ≡ Some (range_told start end has_end)
  pub none : answer ≡ false → range ≡ None
  pub unchanged : answer ≡ false → (start ≡ old_start) × (end ≡ old_end) × (has_end ≡ old_has_end)
  pub no_end : has_end ≡ false → end ≡ old_end

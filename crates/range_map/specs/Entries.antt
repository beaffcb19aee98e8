-- The ranges of a map that have a value, each with it.
--     range_until k end    from k up to the end, if there is one
--     first_or keys end    the first key, or else the end
--     entries m            the ranges with their values, from the lowest on
--     ranges_in m, values_in m    the ranges alone, and the values alone
--     entries_of items end those of a list of steps, up to the end, if there is one
--     overlaps order start end e    the range with its value shares a key with the one from start to end
--     entry_now e          the range and the value that references point to
use Rattle.std.specs.Prelude.{Bool, ◌&&◌, List, [], ◌∷◌, map, Option, Some, None}
use Rattle.std.specs.Borrow.{Bor}
use Rattle.std.specs.Ordering.{is_lt}
use Rattle.std.specs.declared.cmp.Ordering.{Ordering}
use Rattle.range_collections.specs.Ranges.{range_now}
use Rattle.range_collections.specs.declared.range_set_range.RangeSetRange.{RangeSetRange}
use Rattle.range_collections.specs.declared.range_set_range.RangeSetRange.TheVariants.{Range, RangeFrom}
use Rattle.range_map.specs.Steps.{Steps}
use Rattle.range_map.specs.Listed.{steps_of}
use Rattle.range_map.specs.declared.step.Step.{Step}

module _ {K : Type 0} where
  -- from k up to the end, if there is one
  abbrev pub range_until : K → Option K → RangeSetRange K
  range_until k None = RangeFrom (record { start = k })
  range_until k (Some end) = Range (record { start = k; end = end })

  -- the first key, or else the end
  abbrev pub first_or : List K → Option K → Option K
  first_or [] end = end
  first_or (k ∷ ks) end = Some k

module _ {K V : Type 0} where
  -- the ranges of the steps up to an end, if there is one
  abbrev pub entries_until : List K → List (Option V) → Option K → List (RangeSetRange K × V)
  entries_until [] ps end = []
  entries_until (k ∷ ks) [] end = []
  entries_until (k ∷ ks) (None ∷ ps) end = entries_until ks ps end
  entries_until (k ∷ ks) (Some v ∷ ps) end =
      (range_until k (first_or ks end), v) ∷ entries_until ks ps end

  -- the ranges of a map with their values, from the lowest on
  abbrev pub entries : Steps K V → List (RangeSetRange K × V)
  entries m = entries_until m.keys m.options None

  -- the ranges alone, and the values alone
  abbrev pub ranges_in : Steps K V → List (RangeSetRange K)
  ranges_in m = map (λ e. e.0) (entries m)

  abbrev pub values_in : Steps K V → List V
  values_in m = map (λ e. e.1) (entries m)

  -- those of a list of steps, up to the end, if there is one
  abbrev pub entries_of : List (Step K V) → Option K → List (RangeSetRange K × V)
  entries_of items end = entries_until (steps_of items).keys (steps_of items).options end

  -- the range begins below the end and ends above the start, of which the start is the lower one
  abbrev pub overlaps : (K → K → Ordering) → K → K → RangeSetRange K × V → Bool
  overlaps order start end (Range r, v) =
      is_lt (order start end) && (is_lt (order r.start end) && is_lt (order start r.end))
  overlaps order start end (RangeFrom r, v) = is_lt (order start end) && is_lt (order r.start end)

  -- the range and the value that references point to
  abbrev pub entry_now : RangeSetRange (Bor K) × Bor V → RangeSetRange K × V
  entry_now e = (range_now e.0, e.1.now)

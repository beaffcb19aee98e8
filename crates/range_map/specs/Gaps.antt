-- The parts of a range whose keys have no value.
--     gaps_until start keys options end    the parts of the steps up to the end, and one from the start
--     free_of items end, gaps_of start items end    the same of a list of steps
--     is_in_some order rs x     some range of the list has x
--     AreGaps order m start end rs    the ranges have the keys between without a value, and lie apart
use Rattle.std.specs.Prelude.{◌≡◌, Bool, true, false, not, ◌&&◌, ◌||◌, List, [], ◌∷◌, map, Option, Some, None, All}
use Rattle.std.specs.List.{AllPairs}
use Rattle.std.specs.Option.{is_some}
use Rattle.std.specs.declared.cmp.Ordering.{Ordering}
use Rattle.range_collections.specs.Ranges.{EndsBelow, range_start}
use Rattle.range_collections.specs.declared.range_set_range.RangeSetRange.{RangeSetRange}
use Rattle.range_collections.specs.declared.range_set_range.RangeSetRange.TheVariants.{Range, RangeFrom}
use Rattle.range_map.specs.Steps.{Steps, value_at}
use Rattle.range_map.specs.Listed.{steps_of}
use Rattle.range_map.specs.declared.step.Step.{Step}
use Rattle.range_map.specs.Changed.{is_in_range}
use Rattle.range_map.specs.Entries.{range_until, first_or, entries_until}
use Rattle.range_map.specs.Units.{unit_if}

-- the unit where there is no value
abbrev pub unvalued : {V : Type 0} → Option V → Option (Unit {0})
unvalued p = unit_if (not (is_some p))

module _ {K V : Type 0} where
  -- the ranges without a value of the steps up to the end
  abbrev pub free_until : List K → List (Option V) → K → List (RangeSetRange K)
  free_until keys options end =
      map (λ e. e.0) (entries_until keys (map unvalued options) (Some end))

  -- one from the start on, if it is given, and the others
  abbrev pub gaps_until : Option K → List K → List (Option V) → K → List (RangeSetRange K)
  gaps_until None keys options end = free_until keys options end
  gaps_until (Some start) keys options end =
      range_until start (first_or keys (Some end)) ∷ free_until keys options end

  -- the same of a list of steps
  abbrev pub free_of : List (Step K V) → K → List (RangeSetRange K)
  free_of items end = free_until (steps_of items).keys (steps_of items).options end

  abbrev pub gaps_of : Option K → List (Step K V) → K → List (RangeSetRange K)
  gaps_of start items end = gaps_until start (steps_of items).keys (steps_of items).options end

module _ {K : Type 0} (order : K → K → Ordering) where
  -- the range has x
  abbrev pub has : RangeSetRange K → K → Bool
  has (Range r) x = is_in_range order r.start (Some r.end) x
  has (RangeFrom r) x = is_in_range order r.start None x

  -- some range of the list has x
  abbrev pub is_in_some : List (RangeSetRange K) → K → Bool
  is_in_some [] x = false
  is_in_some (r ∷ rs) x = has r x || is_in_some rs x

  -- some range has x exactly if x is from the start up to the end and has no value; none is empty,
  -- and each ends below the starts of all later ones
  pub record AreGaps {V : Type 0} (m : Steps K V) (start end : K) (gaps : List (RangeSetRange K)) :
      Type 0 where
    pub members : (x : K) →
        is_in_some gaps x ≡ (is_in_range order start (Some end) x && not (is_some (value_at order m x)))
    pub filled : All (λ r. has r (range_start r) ≡ true) gaps
    pub apart : AllPairs (EndsBelow order) gaps

-- Maps, as C has them.
--     held_map map            the steps of a map, and none where there is no map
--     told has x              x, if there is one
--     entry_ends es           the ends of ranges that have values
--     with_room ends values es    the first ranges, as many as have room
--     CopiesEntries es ..     their ends and values stand in two buffers
--     IsSetIfDone order ..    the option of a range is set, if there was memory
--     Tells p old new answer  whether there is a value, which is told then
use Rattle.std.specs.Option.{unwrap_or}
use Rattle.std.specs.Prelude.{◌≡◌, ℕ, ◌/◌, Bool, false, cond, List, [], ◌++◌, length, take, drop, map, min, Option, Some, None, IsTrue}
use Rattle.std.specs.List.{flat_map}
use Rattle.std.specs.declared.cmp.Ordering.{Ordering}
use Rattle.range_collections.specs.Ranges.{range_ends}
use Rattle.range_collections.specs.declared.range_set_range.RangeSetRange.{RangeSetRange}
use Rattle.range_map.specs.Steps.{Steps}
use Rattle.range_map.specs.Changed.{IsSetTo, FitsAfter}

-- the steps of a map, and none where there is no map
abbrev pub held_map : {K V : Type 0} → Option (Steps K V) → Steps K V
held_map map = unwrap_or map (record { keys = []; options = [] })

-- x, if there is one
abbrev pub told : {X : Type 0} → Bool → X → Option X
told has x = cond has (Some x) None

-- an answer that is true if there was memory: the map then has p in the range, and elsewhere what it
-- had. Else it is as it was, which it never is where the steps after the change would fit
pub record IsSetIfDone {K V : Type 0} (order : K → K → Ordering) (E : V → V → Bool) (start : K)
    (end : Option K) (p : Option V) (before after : Steps K V) (done : Bool) : Type 0 where
  pub values : IsTrue done → IsSetTo order E start end p before after
  pub unchanged : done ≡ false → after ≡ before
  pub succeeds : FitsAfter order E start end p before → IsTrue done

-- an answer that is true if there is a value, which is told then; else what is told is as it was
pub record Tells {V : Type 0} (p : Option V) (old new : V) (answer : Bool) : Type 0 where
  pub value : p ≡ told answer new
  pub unchanged : answer ≡ false → new ≡ old

module _ {K V : Type 0} where
  -- the ends of ranges that have values
  abbrev pub entry_ends : List (RangeSetRange K × V) → List K
  entry_ends es = flat_map range_ends (map (λ e. e.0) es)

  -- the first ranges, as many as have room for two ends and a value each
  abbrev pub with_room : List K → List V → List (RangeSetRange K × V) → List (RangeSetRange K × V)
  with_room ends values es = take (min (length ends / 2) (length values)) es

  -- these have n ends. One buffer begins with them, the other with the values, and after that they
  -- are as they were
  pub record CopiesEntries (es : List (RangeSetRange K × V)) (ends_old ends_new : List K)
      (values_old values_new : List V) (n : ℕ) : Type 0 where
    pub counted : n ≡ length (entry_ends (with_room ends_old values_old es))
    pub ends : ends_new ≡ entry_ends (with_room ends_old values_old es) ++ drop n ends_old
    pub values : values_new ≡ map (λ e. e.1) (with_room ends_old values_old es)
        ++ drop (length (with_room ends_old values_old es)) values_old

use Rattle.std.proofs.Common.{◌≡◌, ◌+◌, ◌-◌, ◌≤◌, ◌++◌, List, length, option_copied}
use Rattle.std.specs.List.{AllWithin}
use Rattle.range_list.specs.Lists.{place_at, IsPlaceAt}
use Rattle.range_map.specs.Combining.{IsBelowFrom, IsMadeUpTo, option_before}
use Rattle.range_map.specs.Listed.{steps_of, steps_in}
use Rattle.range_map.specs.declared.step.Step.{Step}
use Rattle.range_map.proofs.in_place.put_from.Given as goal

abbrev pub invariant-loop-next : goal.invariant-loop-next
invariant-loop-next g l = record {
  place : IsPlaceAt l.steps l.at;
  below_place : IsPlaceAt l.steps l.below;
  ordered : place_at l.steps l.fn.from ≤ place_at l.steps l.at;
  before : place_at l.steps l.at ≤ place_at l.steps l.below;
  within : l.index ≤ length l.that.keys;
  left_below : AllWithin (IsBelowFrom g.K.Ord.cmp l.that.keys l.index) (steps_in l.steps).keys 0 (place_at l.steps l.below);
  right_below : AllWithin (IsBelowFrom g.K.Ord.cmp (steps_in l.steps).keys (place_at l.steps l.at)) l.that.keys 0 l.index;
  made : (front : List (Step g.row.K.Denot g.row.V.Denot)) → option_copied l.before ≡ option_before (steps_of front) (length front) →
      IsMadeUpTo g.K.Ord.cmp g.V.PartialEq.eq (g.O.MapOperation.gives l.op) (steps_in l.steps) l.that (place_at l.steps l.fn.from) 0 (steps_of (front ++ l.fn.list.items)) →
      IsMadeUpTo g.K.Ord.cmp g.V.PartialEq.eq (g.O.MapOperation.gives l.op) (steps_in l.steps) l.that (place_at l.steps l.at) l.index (steps_of (front ++ l.list.items));
}

abbrev pub decreases-loop-next : goal.decreases-loop-next
decreases-loop-next g l = (length (steps_in l.steps).keys - place_at l.steps l.at) + (length l.that.keys - l.index)

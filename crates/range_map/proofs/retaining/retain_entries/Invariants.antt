use Rattle.std.proofs.Common.{◌≡◌, ◌≤◌, ◌<◌, ◌-◌, true, false, [], length, take, drop}
use Rattle.range_list.specs.Lists.{joined, place_at, IsPlaceAt}
use Rattle.range_map.specs.Combining.{IsMadeUpTo}
use Rattle.range_map.specs.Listed.{steps_of}
use Rattle.range_map.specs.Updated.{kept_steps}
use Rattle.range_map.proofs.retaining.retain_entries.Given as goal

abbrev pub invariant-loop-more : goal.invariant-loop-more
invariant-loop-more g l = record {
  at_place : IsPlaceAt l.steps l.at;
  end_place : IsPlaceAt l.steps l.end;
  ordered : place_at l.steps l.end ≤ place_at l.steps l.at;
  len : length (joined l.steps) ≡ length (joined l.fn.steps);
  within : place_at l.steps l.at ≤ length (joined l.steps);
  item : l.more ≡ true → place_at l.steps l.at < length (joined l.steps);
  past : l.more ≡ false → length (joined l.steps) ≤ place_at l.steps l.at;
  later : drop (place_at l.steps l.at) (joined l.steps) ≡ drop (place_at l.steps l.at) (joined l.fn.steps);
  made : IsMadeUpTo g.K.Ord.cmp {W = Unit {0}} g.V.PartialEq.eq (λ p q. p)
      (steps_of (kept_steps (g.F.RangeFilter.is_kept l.filter) (joined l.fn.steps))) (record { keys = []; options = [] }) (place_at l.steps l.at) 0
      (steps_of (take (place_at l.steps l.end) (joined l.steps)));
}

abbrev pub decreases-loop-more : goal.decreases-loop-more
decreases-loop-more g l = length (joined l.steps) - place_at l.steps l.at

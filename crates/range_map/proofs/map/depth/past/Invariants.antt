use Rattle.std.proofs.Common.{◌-◌, ◌≤◌, length}
use Rattle.range_merge.specs.Boundaries.{count_up_to}
use Rattle.range_map.proofs.map.depth.past.Given as goal

abbrev pub invariant-loop-place : goal.invariant-loop-place
invariant-loop-place g l = l.place ≤ count_up_to g.K.Ord.cmp l.items l.key

abbrev pub decreases-loop-place : goal.decreases-loop-place
decreases-loop-place g l = length l.items - l.place

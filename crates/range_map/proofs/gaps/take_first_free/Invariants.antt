use Rattle.std.proofs.Common.{◌≡◌, length}
use Rattle.range_map.specs.Gaps.{free_of}
use Rattle.range_map.proofs.gaps.take_first_free.Given as goal

abbrev pub invariant-loop-step : goal.invariant-loop-step
invariant-loop-step g l = free_of l.fn.steps l.end ≡ free_of l.steps l.end

abbrev pub decreases-loop-step : goal.decreases-loop-step
decreases-loop-step g l = length l.steps

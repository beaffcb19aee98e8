use Rattle.std.proofs.Common.{◌≡◌, length, option_copied}
use Rattle.range_map.specs.Gaps.{gaps_of}
use Rattle.range_map.proofs.gaps.take_last_gap.Given as goal

abbrev pub invariant-loop-step : goal.invariant-loop-step
invariant-loop-step g l = gaps_of (option_copied l.fn.first) l.fn.steps l.fn.end.now ≡ gaps_of (option_copied l.first) l.steps l.end.now

abbrev pub decreases-loop-step : goal.decreases-loop-step
decreases-loop-step g l = length l.steps

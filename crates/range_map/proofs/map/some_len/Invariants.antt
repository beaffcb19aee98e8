use Rattle.std.proofs.Common.{◌≡◌, ◌+◌, length, filter}
use Rattle.std.specs.Option.{is_some}
use Rattle.range_map.specs.Listed.{steps_of, steps_in}
use Rattle.range_map.proofs.map.some_len.Given as goal

-- how many are read and have a value, and how many are unread
abbrev pub invariant-loop-step : goal.invariant-loop-step
invariant-loop-step g l = l.len + length (filter is_some (steps_of l.unread).options) ≡ length (filter is_some (steps_in l.fn.steps).options) + length l.unread

abbrev pub decreases-loop-step : goal.decreases-loop-step
decreases-loop-step g l = length l.unread

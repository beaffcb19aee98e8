use Rattle.std.proofs.Common.{◌≡◌, length, option_copied}
use Rattle.range_map.specs.Entries.{entries_of}
use Rattle.range_map.proofs.iter.take_first_entry.Given as goal

abbrev pub invariant-loop-step : goal.invariant-loop-step
invariant-loop-step g l = entries_of l.fn.steps (option_copied l.end) ≡ entries_of l.steps (option_copied l.end)

abbrev pub decreases-loop-step : goal.decreases-loop-step
decreases-loop-step g l = length l.steps

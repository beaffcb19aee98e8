use Rattle.std.proofs.Common.{◌≡◌, ◌≤◌, ◌++◌, length}
use Rattle.range_list.specs.Lists.{joined}
use Rattle.range_map.specs.Listed.{steps_of, steps_in}
use Rattle.range_map.specs.Read.{steps_read}
use Rattle.range_map.proofs.borrowed_steps.references.Given as goal

abbrev pub invariant-loop-step : goal.invariant-loop-step
invariant-loop-step g l = record {
  keys : (steps_read l.list.items).keys ++ (steps_of l.unread).keys ≡ (steps_in l.steps).keys;
  options : (steps_read l.list.items).options ++ (steps_of l.unread).options ≡ (steps_in l.steps).options;
  few : length l.unread ≤ length (joined l.steps);
}

abbrev pub decreases-loop-step : goal.decreases-loop-step
decreases-loop-step g l = length l.unread

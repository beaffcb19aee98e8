use Rattle.std.proofs.Common.{◌≡◌, true, take}
use Rattle.range_map.specs.Units.{on_off}
use Rattle.range_map.specs.Read.{steps_read}
use Rattle.range_map.proofs.borrowed_steps.units.Given as goal

abbrev pub invariant-loop-i : goal.invariant-loop-i
invariant-loop-i g l = record {
  keys : (steps_read l.list.items).keys ≡ take l.i l.boundaries;
  options : (steps_read l.list.items).options ≡ on_off true l.i;
}

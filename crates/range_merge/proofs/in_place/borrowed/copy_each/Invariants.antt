use Rattle.std.proofs.Common.{◌≡◌, length, take}
use Rattle.std.specs.List.{AllZip}
use Rattle.range_merge.proofs.in_place.borrowed.copy_each.Given as goal

abbrev pub invariant-loop-i : goal.invariant-loop-i
invariant-loop-i g l =
    record {
      copies : AllZip g.P.Copier.alike (take l.i l.items) (take l.i l.slots);
      as_many : length l.slots ≡ length l.items;
    }

use Rattle.std.proofs.Common.{◌≡◌, length, take}
use Rattle.std.specs.List.{AllZip}
use Rattle.range_merge.proofs.fast.overwritten.write_each.Given as goal

abbrev pub invariant-loop-i : goal.invariant-loop-i
invariant-loop-i g l =
    record {
      copies : AllZip g.P.Copier.alike (take l.i l.items) (take l.i l.slots);
      long : length l.slots ≡ length l.fn.slots;
    }

use Rattle.std.proofs.Common.{◌-◌}
use Rattle.range_merge.proofs.Gallops.{IsHalved}
use Rattle.range_merge.proofs.runs.halved.Given as goal

abbrev pub invariant-loop-low : goal.invariant-loop-low
invariant-loop-low g l =
    IsHalved g.C.Compare.order (g.L.Indexed.items l.side) l.key
    l.fn.known.low (l.fn.known.high - l.fn.known.low) l.low l.high l.next (g.C.Compare.count l.fn.cmp) (g.C.Compare.count l.cmp)

abbrev pub decreases-loop-low : goal.decreases-loop-low
decreases-loop-low g l = l.high - l.low

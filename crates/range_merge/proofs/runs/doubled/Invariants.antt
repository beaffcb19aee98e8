use Rattle.std.proofs.Common.{◌-◌}
use Rattle.range_merge.proofs.Gallops.{IsDoubled}
use Rattle.range_merge.proofs.runs.doubled.Given as goal

abbrev pub invariant-loop-low : goal.invariant-loop-low
invariant-loop-low g l =
    IsDoubled g.C.Compare.order (g.L.Indexed.items l.side) l.key l.low l.len (g.C.Compare.count l.fn.cmp) (g.C.Compare.count l.cmp)

abbrev pub decreases-loop-low : goal.decreases-loop-low
decreases-loop-low g l = l.len - l.low

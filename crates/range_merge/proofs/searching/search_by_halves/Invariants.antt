use Rattle.std.proofs.Common.{◌-◌}
use Rattle.range_merge.proofs.Fronts.{IsWindow}
use Rattle.range_merge.proofs.searching.search_by_halves.Given as goal

abbrev pub invariant-loop-low : goal.invariant-loop-low
invariant-loop-low g l =
    IsWindow g.C.Compare.order l.items l.key l.low l.high (g.C.Compare.count l.fn.cmp) (g.C.Compare.count l.cmp)

abbrev pub decreases-loop-low : goal.decreases-loop-low
decreases-loop-low g l = l.high - l.low

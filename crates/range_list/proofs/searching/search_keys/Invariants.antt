use Rattle.std.proofs.Common.{◌+◌, map}
use Rattle.range_merge.proofs.Fronts.{IsWindow}
use Rattle.range_list.proofs.searching.search_keys.Given as goal

abbrev pub invariant-loop-left : goal.invariant-loop-left
invariant-loop-left g l =
    IsWindow g.C.Compare.order (map g.L.KeyOf.key_of l.items) l.key l.front (l.front + l.left) (g.C.Compare.count l.fn.cmp) (g.C.Compare.count l.cmp)

abbrev pub decreases-loop-left : goal.decreases-loop-left
decreases-loop-left g l = l.left

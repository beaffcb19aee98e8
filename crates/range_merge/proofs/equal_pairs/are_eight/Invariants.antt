use Rattle.std.proofs.Common.{◌≡◌, ◌+◌, ◌≤◌, true}
use Rattle.range_merge.specs.OneRun.{ArePairs}
use Rattle.range_merge.proofs.equal_pairs.are_eight.Given as goal

abbrev pub invariant-loop-i : goal.invariant-loop-i
invariant-loop-i g l =
    let count = g.C.Compare.count in
    record {
      pairs : l.equal ≡ true → ArePairs g.C.Compare.order l.i (g.S.MergeState.left l.state) (g.S.MergeState.right l.state);
      cost : count l.cmp + 1 ≤ count l.fn.cmp + l.i;
      at_least : count l.fn.cmp ≤ count l.cmp;
    }

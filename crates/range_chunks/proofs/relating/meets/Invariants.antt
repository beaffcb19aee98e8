use Rattle.std.proofs.Common.{◌≡◌, ◌⊎◌, true, not, length}
use Rattle.range_merge.specs.Boundaries.{IsAscending, member}
use Rattle.range_chunks.proofs.relating.meets.Given as goal

abbrev pub invariant-loop-start : goal.invariant-loop-start
invariant-loop-start g l = record {
  sorted : IsAscending g.T.Ord.cmp (g.U.Unread.unread l.unread);
  within : (x : g.row.T.Denot) → member g.T.Ord.cmp (g.U.Unread.unread l.unread) x ≡ true → member g.T.Ord.cmp (g.U.Unread.unread l.fn.ranges) x ≡ true;
  others : (x : g.row.T.Denot) → member g.T.Ord.cmp (g.U.Unread.unread l.fn.ranges) x ≡ true →
      (member g.T.Ord.cmp (g.U.Unread.unread l.unread) x ≡ true) ⊎ (member g.T.Ord.cmp (g.L.Boundaries.items l.list) x ≡ not l.inside);
}

abbrev pub decreases-loop-start : goal.decreases-loop-start
decreases-loop-start g l = length (g.U.Unread.unread l.unread)

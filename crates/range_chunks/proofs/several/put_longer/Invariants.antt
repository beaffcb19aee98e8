use Rattle.std.proofs.Common.{◌≡◌, false, reverse}
use Rattle.range_merge.specs.Boundaries.{IsAscending, member}
use Rattle.range_list.specs.Lists.{joined}
use Rattle.range_chunks.specs.Several.{AreKeptAbove, AreSettled, ArePutIn}
use Rattle.range_chunks.proofs.several.put_longer.Given as goal

abbrev pub invariant-loop-i : goal.invariant-loop-i
invariant-loop-i g l = record {
  sorted : IsAscending g.T.Ord.cmp (joined l.list);
  put : ArePutIn g.T.Ord.cmp l.that (joined l.fn.list) (reverse l.put.items) (joined l.list);
  outside : (x : g.row.T.Denot) → member g.T.Ord.cmp l.that x ≡ false →
      member g.T.Ord.cmp (joined l.list) x ≡ member g.T.Ord.cmp (joined l.fn.list) x;
  kept : AreKeptAbove g.T.Ord.cmp l.that (joined l.fn.list) (joined l.list);
  settled : AreSettled g.T.Ord.cmp l.inside (joined l.list) l.that l.i;
}

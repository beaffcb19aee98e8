use Rattle.std.proofs.Common.{◌≡◌, ◌*◌, ◌/◌, length, take}
use Rattle.range_merge.specs.Boundaries.{IsAscending, member}
use Rattle.range_collections.specs.Splicing.{range_table}
use Rattle.range_list.specs.Lists.{joined}
use Rattle.range_chunks.specs.Several.{AreKeptAbove, AreSettled}
use Rattle.range_chunks.proofs.several.settle.Given as goal

abbrev pub invariant-loop-i : goal.invariant-loop-i
invariant-loop-i g l = record {
  sorted : IsAscending g.T.Ord.cmp (joined l.list);
  members : (x : g.row.T.Denot) → member g.T.Ord.cmp (joined l.list) x ≡
      range_table l.inside (member g.T.Ord.cmp (joined l.fn.list) x) (member g.T.Ord.cmp (take (2 * l.i) l.that) x);
  kept : AreKeptAbove g.T.Ord.cmp l.that (joined l.fn.list) (joined l.list);
  settled : AreSettled g.T.Ord.cmp l.inside (joined l.list) l.that (length l.that / 2);
}

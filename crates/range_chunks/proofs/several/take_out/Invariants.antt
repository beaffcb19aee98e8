use Rattle.std.proofs.Common.{List, length, reverse}
use Rattle.range_merge.specs.Boundaries.{IsAscending}
use Rattle.range_list.specs.Lists.{joined}
use Rattle.range_chunks.specs.Several.{ArePutIn}
use Rattle.range_chunks.proofs.several.take_out.Given as goal

abbrev pub invariant-loop-at : goal.invariant-loop-at
invariant-loop-at g l = record {
  sorted : IsAscending g.T.Ord.cmp (joined l.list);
  some : (before : List g.row.T.Denot) × ArePutIn g.T.Ord.cmp l.that before (reverse l.put.items) (joined l.list);
  all : (before : List g.row.T.Denot) → ArePutIn g.T.Ord.cmp l.that before (reverse l.fn.put.items) (joined l.fn.list) →
      ArePutIn g.T.Ord.cmp l.that before (reverse l.put.items) (joined l.list);
}

abbrev pub decreases-loop-at : goal.decreases-loop-at
decreases-loop-at g l = length l.put.items

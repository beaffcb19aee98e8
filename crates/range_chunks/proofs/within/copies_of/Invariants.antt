use Rattle.std.proofs.Common.{◌≡◌, ◌++◌, length}
use Rattle.range_collections.specs.Within.{borrowed_items}
use Rattle.range_list.specs.Lists.{joined}
use Rattle.range_chunks.proofs.within.copies_of.Given as goal

abbrev pub invariant-loop-boundary : goal.invariant-loop-boundary
invariant-loop-boundary l = joined l.list ++ borrowed_items l.unread.first l.unread.between l.unread.last ≡ l.fn.parts

abbrev pub decreases-loop-boundary : goal.decreases-loop-boundary
decreases-loop-boundary l = length (borrowed_items l.unread.first l.unread.between l.unread.last)

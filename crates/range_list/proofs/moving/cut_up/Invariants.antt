use Rattle.std.proofs.Common.{length}
use Rattle.range_list.proofs.Moved.{AreCutOff}
use Rattle.range_list.proofs.moving.cut_up.Given as goal

abbrev pub invariant-loop-mark : goal.invariant-loop-mark
invariant-loop-mark g l = AreCutOff g.M.Mark.FULL g.M.Mark.of l.fn.mark l.fn.list.items l.unread.items l.chunks.items

abbrev pub decreases-loop-mark : goal.decreases-loop-mark
decreases-loop-mark g l = length l.unread.items

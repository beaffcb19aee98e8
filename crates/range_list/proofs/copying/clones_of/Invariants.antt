use Rattle.std.proofs.Common.{length}
use Rattle.range_list.proofs.Copied.{AreClonesBefore}
use Rattle.range_list.proofs.copying.clones_of.Given as goal

abbrev pub invariant-loop-first : goal.invariant-loop-first
invariant-loop-first g l = AreClonesBefore g.T.EntryClone.is_copy g.M.Mark.FULL g.M.Mark.of l.items l.unread l.mark l.copied.items

abbrev pub decreases-loop-first : goal.decreases-loop-first
decreases-loop-first g l = length l.unread

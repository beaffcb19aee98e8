use Rattle.std.proofs.Common.{rules}
use Rattle.range_list.proofs.Behind.{AreChunks-more}
use Rattle.range_list.proofs.appending.push_chunk.Goals as goal

pub invariant_of-chunks-2 : goal.invariant_of-chunks-2
invariant_of-chunks-2 g c =
    rw (c.in_ok-push.ensures.items, c.chunks.view_is)
    (AreChunks-more g.M.Mark.of g.M.Mark.moved g.met.M.Mark.adds c.args.chunks.now _ (rw c.chunks.view_is at c.chunks.invariant) (search rules) c.end_mark-mark.ensures)

use Rattle.range_list.proofs.Moved.{cut_off-start, cut_off-more}
use Rattle.range_list.proofs.moving.cut_up.Goals as goal

pub loop-mark-init : goal.loop-mark-init
loop-mark-init g c = rw c.in_ok-chunks.ensures.items (cut_off-start g.M.Mark.FULL g.M.Mark.of g.M.Mark.moved g.met.M.Mark.adds c.args.mark c.args.list.items)

pub loop-mark-preserved : goal.loop-mark-preserved
loop-mark-preserved g c =
    rw c.in_ok-push.ensures.items
    (cut_off-more g.M.Mark.FULL g.M.Mark.of g.M.Mark.moved g.met.M.Mark.adds c.args.mark c.args.list.items c.loop-mark.unread.items c.last_chunk.new.list.items c.loop-mark.chunks.items c.in_ok-last_chunk.field-0 c.loop-mark.invariant
    c.in_ok-last_chunk.ensures.items c.in_ok-last_chunk.ensures.short c.in_ok-last_chunk.ensures.mark)

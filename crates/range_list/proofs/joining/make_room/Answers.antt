use Rattle.std.proofs.Common.{ap, length, arith}
use Rattle.range_list.proofs.Inserted.{flat-kept}
use Rattle.range_list.proofs.Removed.{AreChunks-as_long}
use Rattle.range_list.proofs.joining.make_room.Goals as goal

pub returns-clause-same : goal.returns-clause-same
returns-clause-same g c =
    rw c.chunks.view_is
    (flat-kept c.args.chunks.now c.args.at c.index_mut.result.now c.reserve.new.self (omega (arith, c.requires.within)) (rw c.chunks.view_is at c.index_mut.ensures.value) c.reserve.ensures.items)

pub invariant_of-chunks : goal.invariant_of-chunks
invariant_of-chunks g c =
    rw c.chunks.view_is
    (AreChunks-as_long g.M.Mark.of g.M.Mark.moved g.met.M.Mark.adds c.args.chunks.now c.args.at c.index_mut.result.now c.reserve.new.self (rw c.chunks.view_is at c.chunks.invariant) (omega (arith, c.requires.within))
    (rw c.chunks.view_is at c.index_mut.ensures.value) c.reserve.ensures.mark (ap length c.reserve.ensures.items))

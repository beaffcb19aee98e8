use Rattle.range_list.proofs.InOrder.{index-at}
use Rattle.range_list.proofs.Removed.{removed-in, AreChunks-removed_in}
use Rattle.range_list.proofs.removing.remove_in.Goals as goal

pub returns : goal.returns
returns g c =
    rw c.chunks.view_is
    (let read = rw c.chunks.view_is at c.index_mut.ensures.value in
    removed-in c.args.chunks.now c.args.from.chunk c.args.from.index c.args.to c.index_mut.result.now c.remove_between.new.self c.requires.from.chunk read
    c.requires.ordered (index-at c.args.chunks.now (record { chunk = c.args.from.chunk; index = c.args.to }) c.index_mut.result.now c.requires.to read) c.remove_between.ensures.items)

pub invariant_of-chunks : goal.invariant_of-chunks
invariant_of-chunks g c =
    rw c.chunks.view_is
    (let read = rw c.chunks.view_is at c.index_mut.ensures.value in
    AreChunks-removed_in g.M.Mark.of g.M.Mark.moved g.met.M.Mark.adds c.args.chunks.now c.args.from.chunk c.args.from.index c.args.to c.index_mut.result.now c.remove_between.new.self c.requires.from.chunk read
    c.requires.ordered (index-at c.args.chunks.now (record { chunk = c.args.from.chunk; index = c.args.to }) c.index_mut.result.now c.requires.to read) c.remove_between.ensures.items
    (rw c.chunks.view_is at c.chunks.invariant) c.remove_between.ensures.mark c.requires.alike)

use Rattle.range_list.proofs.InOrder.{item-read, places-set}
use Rattle.range_list.proofs.Removed.{AreChunks-as_long}
use Rattle.range_list.proofs.Swapped.{swapped-in, swapped-long}
use Rattle.range_list.proofs.swapping.swap_in.Goals as goal

pub returns-clause-items : goal.returns-clause-items
returns-clause-items g c =
    rw c.chunks.view_is
    (let read = rw c.chunks.view_is at c.index_mut.ensures.value in
    swapped-in c.args.chunks.now c.args.a c.args.b c.index_mut.result.now c.swap.new.self c.requires.a read c.requires.ordered
    (item-read c.args.chunks.now (record { chunk = c.args.a.chunk; index = c.args.b }) c.index_mut.result.now c.requires.b read) c.swap.ensures.items)

pub returns-clause-places : goal.returns-clause-places
returns-clause-places g c =
    rw c.chunks.view_is
    (let read = rw c.chunks.view_is at c.index_mut.ensures.value in
    places-set c.args.chunks.now c.args.a.chunk c.index_mut.result.now c.swap.new.self c.requires.a.chunk read
    (swapped-long c.args.chunks.now c.args.a c.args.b c.index_mut.result.now c.swap.new.self c.requires.a read c.requires.ordered
    (item-read c.args.chunks.now (record { chunk = c.args.a.chunk; index = c.args.b }) c.index_mut.result.now c.requires.b read) c.swap.ensures.items))

pub invariant_of-chunks : goal.invariant_of-chunks
invariant_of-chunks g c =
    rw c.chunks.view_is
    (let read = rw c.chunks.view_is at c.index_mut.ensures.value in
    AreChunks-as_long g.M.Mark.of g.M.Mark.moved g.met.M.Mark.adds c.args.chunks.now c.args.a.chunk c.index_mut.result.now c.swap.new.self (rw c.chunks.view_is at c.chunks.invariant) c.requires.a.chunk
    read c.swap.ensures.mark
    (swapped-long c.args.chunks.now c.args.a c.args.b c.index_mut.result.now c.swap.new.self c.requires.a read c.requires.ordered
    (item-read c.args.chunks.now (record { chunk = c.args.a.chunk; index = c.args.b }) c.index_mut.result.now c.requires.b read) c.swap.ensures.items))

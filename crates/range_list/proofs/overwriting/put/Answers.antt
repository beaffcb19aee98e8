use Rattle.range_list.proofs.InOrder.{as-long, put-items, put-places}
use Rattle.range_list.proofs.Removed.{AreChunks-as_long}
use Rattle.range_list.proofs.overwriting.put.Goals as goal

pub returns-clause-items : goal.returns-clause-items
returns-clause-items g c =
    rw c.chunks.view_is
    (put-items c.args.chunks.now c.args.at c.index_mut.result.now c.put-index.new.self c.args.item c.requires.place c.requires.item
    (rw c.chunks.view_is at c.index_mut.ensures.value) c.put-index.ensures.items)

pub returns-clause-places : goal.returns-clause-places
returns-clause-places g c =
    rw c.chunks.view_is
    (put-places c.args.chunks.now c.args.at c.index_mut.result.now c.put-index.new.self c.args.item c.requires.place c.requires.item
    (rw c.chunks.view_is at c.index_mut.ensures.value) c.put-index.ensures.items)

pub invariant_of-chunks : goal.invariant_of-chunks
invariant_of-chunks g c =
    rw c.chunks.view_is
    (let read = rw c.chunks.view_is at c.index_mut.ensures.value in
    let n = as-long c.args.chunks.now c.args.at c.index_mut.result.now c.put-index.new.self c.args.item c.requires.place c.requires.item
    read c.put-index.ensures.items in
    AreChunks-as_long g.M.Mark.of g.M.Mark.moved g.met.M.Mark.adds c.args.chunks.now c.args.at.chunk c.index_mut.result.now c.put-index.new.self (rw c.chunks.view_is at c.chunks.invariant) c.requires.place.chunk
    read c.put-index.ensures.mark n)

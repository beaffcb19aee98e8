use Rattle.std.proofs.Common.{◌∙◌, ap, length}
use Rattle.range_list.specs.Chunks.{flat}
use Rattle.range_list.proofs.Removed.{AreChunks-as_long, short-at}
use Rattle.range_list.proofs.Inserted.{flat-kept, fits-at, halved-flat, AreChunks-halved, place-before_cut, start-high, room-low, room-high}
use Rattle.range_list.proofs.inserting.split_at.Goals as goal

pub returns-in_err-upper-clause-same : goal.returns-in_err-upper-clause-same
returns-in_err-upper-clause-same g c =
    rw (c.reserve.ensures.items, c.chunks.view_is)
    (flat-kept c.args.chunks.now c.args.at.chunk c.index_mut.result.now c.split_off.new.self c.requires.chunk (rw (c.reserve.ensures.items, c.chunks.view_is) at c.index_mut.ensures.value) c.in_err-upper.ensures.unchanged)

pub invariant_of-chunks-in_err-upper : goal.invariant_of-chunks-in_err-upper
invariant_of-chunks-in_err-upper g c =
    rw (c.reserve.ensures.items, c.chunks.view_is)
    (AreChunks-as_long g.M.Mark.of g.M.Mark.moved g.met.M.Mark.adds c.args.chunks.now c.args.at.chunk c.index_mut.result.now c.split_off.new.self (rw c.chunks.view_is at c.chunks.invariant) c.requires.chunk (rw (c.reserve.ensures.items, c.chunks.view_is) at c.index_mut.ensures.value)
    c.in_err-upper.ensures.mark (ap length c.in_err-upper.ensures.unchanged))

pub returns-clause-same : goal.returns-clause-same
returns-clause-same g c =
    let xs = c.args.chunks.now in
    let read = rw (c.reserve.ensures.items, c.chunks.view_is) at c.index_mut.ensures.value in
    let fits = fits-at xs c.args.at.chunk c.args.at.index c.index_mut.result.now read c.requires.within in
    ap flat c.insert_chunk.ensures
    ∙ rw (c.reserve.ensures.items, c.chunks.view_is)
    (halved-flat xs c.args.at.chunk c.args.at.index c.index_mut.result.now c.split_off.new.self c.in_ok-upper.upper c.requires.chunk read fits c.in_ok-upper.ensures.items.0 c.in_ok-upper.ensures.items.1)

pub invariant_of-chunks-2 : goal.invariant_of-chunks-2
invariant_of-chunks-2 g c =
    let xs = c.args.chunks.now in
    let read = rw (c.reserve.ensures.items, c.chunks.view_is) at c.index_mut.ensures.value in
    let fits = fits-at xs c.args.at.chunk c.args.at.index c.index_mut.result.now read c.requires.within in
    let whole = rw c.chunks.view_is at c.chunks.invariant in
    rw (c.insert_chunk.ensures, c.reserve.ensures.items, c.chunks.view_is)
    (AreChunks-halved g.M.Mark.of g.M.Mark.moved g.met.M.Mark.adds xs c.args.at.chunk c.args.at.index c.index_mut.result.now c.split_off.new.self c.in_ok-upper.upper c.requires.chunk read fits c.in_ok-upper.ensures.items.0 c.in_ok-upper.ensures.items.1
    whole (short-at xs c.args.at.chunk c.index_mut.result.now whole.short c.requires.chunk read)
    c.in_ok-upper.ensures.mark c.in_ok-upper.ensures.moved)

pub returns-clause-lower : goal.returns-clause-lower
returns-clause-lower g c =
    let xs = c.args.chunks.now in
    let read = rw (c.reserve.ensures.items, c.chunks.view_is) at c.index_mut.ensures.value in
    let fits = fits-at xs c.args.at.chunk c.args.at.index c.index_mut.result.now read c.requires.within in
    rw (c.insert_chunk.ensures, c.reserve.ensures.items, c.chunks.view_is)
    (room-low xs c.args.at.chunk c.args.at.index c.index_mut.result.now c.split_off.new.self c.in_ok-upper.upper c.requires.chunk read fits c.in_ok-upper.ensures.items.0 c.in_ok-upper.ensures.items.1)

pub returns-clause-upper : goal.returns-clause-upper
returns-clause-upper g c =
    let xs = c.args.chunks.now in
    let read = rw (c.reserve.ensures.items, c.chunks.view_is) at c.index_mut.ensures.value in
    let fits = fits-at xs c.args.at.chunk c.args.at.index c.index_mut.result.now read c.requires.within in
    rw (c.insert_chunk.ensures, c.reserve.ensures.items, c.chunks.view_is)
    (room-high xs c.args.at.chunk c.args.at.index c.index_mut.result.now c.split_off.new.self c.in_ok-upper.upper c.requires.chunk read fits c.in_ok-upper.ensures.items.0 c.in_ok-upper.ensures.items.1)

pub returns-clause-places : goal.returns-clause-places
returns-clause-places g c =
    let xs = c.args.chunks.now in
    let read = rw (c.reserve.ensures.items, c.chunks.view_is) at c.index_mut.ensures.value in
    let fits = fits-at xs c.args.at.chunk c.args.at.index c.index_mut.result.now read c.requires.within in
    rw (c.insert_chunk.ensures, c.reserve.ensures.items, c.chunks.view_is)
    (place-before_cut xs c.args.at.chunk c.args.at.index c.index_mut.result.now c.split_off.new.self c.in_ok-upper.upper c.requires.chunk read fits c.in_ok-upper.ensures.items.0 c.in_ok-upper.ensures.items.1)

pub returns-clause-end : goal.returns-clause-end
returns-clause-end g c =
    let xs = c.args.chunks.now in
    let read = rw (c.reserve.ensures.items, c.chunks.view_is) at c.index_mut.ensures.value in
    let fits = fits-at xs c.args.at.chunk c.args.at.index c.index_mut.result.now read c.requires.within in
    rw (c.insert_chunk.ensures, c.reserve.ensures.items, c.chunks.view_is)
    (start-high xs c.args.at.chunk c.args.at.index c.index_mut.result.now c.split_off.new.self c.in_ok-upper.upper c.requires.chunk read fits c.in_ok-upper.ensures.items.0 c.in_ok-upper.ensures.items.1)

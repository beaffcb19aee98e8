use Rattle.std.proofs.Common.{ap, sym, ◌∙◌, get_or, set}
use Rattle.range_list.specs.Chunks.{items_of, flat}
use Rattle.range_list.specs.Places.{place_in}
use Rattle.range_list.proofs.Flat.{item-at}
use Rattle.range_list.proofs.InOrder.{as-long, put-items, put-places, item-read}
use Rattle.range_list.proofs.Removed.{AreChunks-as_long}
use Rattle.range_list.proofs.overwriting.set_key.Goals as goal

pub returns-clause-items : goal.returns-clause-items
returns-clause-items g c =
    rw c.chunks.view_is
    (let read = rw c.chunks.view_is at c.index_mut.ensures.value in
    λ d. let xs = c.args.chunks.now in
    let x = c.index_mut.result.now in
    let fits = item-read xs c.args.at x c.requires.item read in
    put-items xs c.args.at x c.set_key-old.new.self (g.L.SetKey.with_key (get_or (items_of x) c.args.at.index d) c.args.key) c.requires.place c.requires.item read (c.set_key-old.ensures.items d)
    ∙ ap (λ v. set (flat xs) (place_in xs c.args.at) (g.L.SetKey.with_key v c.args.key)) (sym (item-at xs c.args.at.chunk c.args.at.index x d c.requires.place.chunk read fits)))

pub returns-clause-places : goal.returns-clause-places
returns-clause-places g c =
    rw c.chunks.view_is
    (put-places c.args.chunks.now c.args.at c.index_mut.result.now c.set_key-old.new.self _ c.requires.place c.requires.item
    (rw c.chunks.view_is at c.index_mut.ensures.value) (c.set_key-old.ensures.items c.index_mut.result.now.first))

pub invariant_of-chunks : goal.invariant_of-chunks
invariant_of-chunks g c =
    rw c.chunks.view_is
    (let read = rw c.chunks.view_is at c.index_mut.ensures.value in
    let n = as-long c.args.chunks.now c.args.at c.index_mut.result.now c.set_key-old.new.self _ c.requires.place c.requires.item
    read (c.set_key-old.ensures.items c.index_mut.result.now.first) in
    AreChunks-as_long g.M.Mark.of g.M.Mark.moved g.met.M.Mark.adds c.args.chunks.now c.args.at.chunk c.index_mut.result.now c.set_key-old.new.self (rw c.chunks.view_is at c.chunks.invariant) c.requires.place.chunk
    read c.set_key-old.ensures.mark n)

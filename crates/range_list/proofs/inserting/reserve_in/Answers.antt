use Rattle.std.proofs.Common.{◌∙◌, ◌≤◌, ◌+◌, ap, sym, length, subst, vec_len, vec_capacity}
use Rattle.std.proofs.lemmas.Result.{on_ok_weaker}
use Rattle.range_list.specs.declared.chunk.Chunk.{Chunk}
use Rattle.range_list.specs.Chunks.{items_of}
use Rattle.range_list.proofs.Inserted.{flat-kept, place-kept, read-put, read-any}
use Rattle.range_list.proofs.Removed.{AreChunks-as_long}
use Rattle.range_list.proofs.inserting.reserve_in.Goals as goal

pub returns-clause-same : goal.returns-clause-same
returns-clause-same g c =
    rw c.chunks.view_is
    (flat-kept c.args.chunks.now c.args.at.chunk c.index_mut.result.now c.reserve.new.self c.requires.place.chunk (rw c.chunks.view_is at c.index_mut.ensures.value) c.reserve.ensures.items)

pub invariant_of-chunks : goal.invariant_of-chunks
invariant_of-chunks g c =
    rw c.chunks.view_is
    (AreChunks-as_long g.M.Mark.of g.M.Mark.moved g.met.M.Mark.adds c.args.chunks.now c.args.at.chunk c.index_mut.result.now c.reserve.new.self (rw c.chunks.view_is at c.chunks.invariant) c.requires.place.chunk
    (rw c.chunks.view_is at c.index_mut.ensures.value) c.reserve.ensures.mark (ap length c.reserve.ensures.items))

pub returns-clause-place : goal.returns-clause-place
returns-clause-place g c =
    rw c.chunks.view_is
    ((place-kept c.args.chunks.now c.args.at c.index_mut.result.now c.reserve.new.self c.requires.place (rw c.chunks.view_is at c.index_mut.ensures.value) c.reserve.ensures.items).0)

pub returns-clause-before : goal.returns-clause-before
returns-clause-before g c =
    rw c.chunks.view_is
    ((place-kept c.args.chunks.now c.args.at c.index_mut.result.now c.reserve.new.self c.requires.place (rw c.chunks.view_is at c.index_mut.ensures.value) c.reserve.ensures.items).1)

pub returns-clause-long : goal.returns-clause-long
returns-clause-long g c =
    rw c.chunks.view_is
    (λ d. ap (λ (x : Chunk _ _). length (items_of x)) (read-put c.args.chunks.now c.args.at.chunk c.reserve.new.self d c.requires.place.chunk)
    ∙ ap length c.reserve.ensures.items
    ∙ ap (λ (x : Chunk _ _). length (items_of x)) (read-any c.args.chunks.now c.args.at.chunk c.index_mut.result.now d c.requires.place.chunk (rw c.chunks.view_is at c.index_mut.ensures.value)))

pub returns-clause-memory : goal.returns-clause-memory
returns-clause-memory g c =
    rw c.chunks.view_is
    (on_ok_weaker c.reserve.result
    (λ fits. λ d. subst (λ (x : Chunk _ _). vec_len x.rest + 2 ≤ vec_capacity x.rest) (sym (read-put c.args.chunks.now c.args.at.chunk c.reserve.new.self d c.requires.place.chunk)) fits)
    c.reserve.ensures.room)

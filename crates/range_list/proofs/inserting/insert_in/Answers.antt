use Rattle.std.proofs.Common.{◌∷◌, ◌≤◌, ◌+◌, sym, subst, vec_len, vec_capacity}
use Rattle.std.specs.Option.{option_to_list}
use Rattle.range_list.specs.declared.chunk.Chunk.{Chunk}
use Rattle.range_list.proofs.Inserted.{inserted-in, AreChunks-inserted, place-inserted, room-two}
use Rattle.range_list.proofs.inserting.insert_in.Goals as goal

pub insert-requires-clause-room : goal.insert-requires-clause-room
insert-requires-clause-room g c =
    subst (λ (x : Chunk _ _). vec_len x.rest + 2 ≤ vec_capacity x.rest) (sym (rw c.chunks.view_is at c.index_mut.ensures.value)) (c.requires.memory c.index_mut.result.now)

pub returns-clause-items : goal.returns-clause-items
returns-clause-items g c =
    rw c.chunks.view_is
    (inserted-in c.args.chunks.now c.args.at c.index_mut.result.now c.insert.new.self (c.args.first ∷ option_to_list c.args.second) c.requires.place (rw c.chunks.view_is at c.index_mut.ensures.value) c.insert.ensures.items)

pub invariant_of-chunks : goal.invariant_of-chunks
invariant_of-chunks g c =
    rw c.chunks.view_is
    (AreChunks-inserted g.M.Mark.of g.M.Mark.moved g.met.M.Mark.adds c.args.chunks.now c.args.at c.index_mut.result.now c.insert.new.self (c.args.first ∷ option_to_list c.args.second) (rw c.chunks.view_is at c.chunks.invariant) c.requires.place
    (rw c.chunks.view_is at c.index_mut.ensures.value) c.insert.ensures.mark (room-two _ c.args.second (c.requires.room c.index_mut.result.now)) c.requires.alike c.insert.ensures.items)

pub returns-clause-place : goal.returns-clause-place
returns-clause-place g c =
    rw c.chunks.view_is
    ((place-inserted c.args.chunks.now c.args.at c.index_mut.result.now c.insert.new.self (c.args.first ∷ option_to_list c.args.second) c.requires.place (rw c.chunks.view_is at c.index_mut.ensures.value) c.insert.ensures.items).0)

pub returns-clause-same : goal.returns-clause-same
returns-clause-same g c =
    rw c.chunks.view_is
    ((place-inserted c.args.chunks.now c.args.at c.index_mut.result.now c.insert.new.self (c.args.first ∷ option_to_list c.args.second) c.requires.place (rw c.chunks.view_is at c.index_mut.ensures.value) c.insert.ensures.items).1)

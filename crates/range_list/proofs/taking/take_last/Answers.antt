use Rattle.std.proofs.Common.{◌≡◌, ◌∷◌, ap, refl, suc, length, arith}
use Rattle.range_list.proofs.Popped.{last_out-flat, last_out-AreChunks, last_emptied-flat, last_emptied-AreChunks}
use Rattle.range_list.proofs.taking.take_last.Goals as goal

pub invariant_of-chunks : goal.invariant_of-chunks
invariant_of-chunks g c =
    rw c.chunks.view_is
    (let last : suc c.in_ok-last.last ≡ length c.args.chunks.now = omega (arith, c.in_ok-last.ensures.0, c.in_ok-last.ensures.1, c.len.ensures) in
    last_out-AreChunks g.M.Mark.of g.M.Mark.moved g.met.M.Mark.adds c.args.chunks.now c.in_ok-last.last c.index_mut.result.now (record { first = c.index_mut.result.now.first; rest = c.pop.new.self; mark = c.index_mut.result.now.mark })
    c.in-Some.item last (rw c.chunks.view_is at c.index_mut.ensures.value) (ap (λ l. c.index_mut.result.now.first ∷ l) c.in-Some.ensures.items) (rw c.chunks.view_is at c.chunks.invariant) refl)

pub returns-in-Some : goal.returns-in-Some
returns-in-Some g c =
    rw c.chunks.view_is
    (let last : suc c.in_ok-last.last ≡ length c.args.chunks.now = omega (arith, c.in_ok-last.ensures.0, c.in_ok-last.ensures.1, c.len.ensures) in
    last_out-flat c.args.chunks.now c.in_ok-last.last c.index_mut.result.now (record { first = c.index_mut.result.now.first; rest = c.pop.new.self; mark = c.index_mut.result.now.mark })
    c.in-Some.item last (rw c.chunks.view_is at c.index_mut.ensures.value) (ap (λ l. c.index_mut.result.now.first ∷ l) c.in-Some.ensures.items))

pub invariant_of-chunks-in-None : goal.invariant_of-chunks-in-None
invariant_of-chunks-in-None g c =
    let last : suc c.in_ok-last.last ≡ length c.args.chunks.now = omega (arith, c.in_ok-last.ensures.0, c.in_ok-last.ensures.1, c.len.ensures) in
    last_emptied-AreChunks g.M.Mark.of g.M.Mark.moved g.met.M.Mark.adds c.args.chunks.now c.remove-first.new.self.items c.in_ok-last.last c.index_mut.result.now (record { first = c.index_mut.result.now.first; rest = c.pop.new.self; mark = c.index_mut.result.now.mark })
    c.remove-first.result last (rw c.chunks.view_is at c.index_mut.ensures.value) (rw c.chunks.view_is at c.remove-first.ensures.value) (rw c.chunks.view_is at c.remove-first.ensures.by_index.2) c.in-None.ensures.items refl (rw c.chunks.view_is at c.chunks.invariant)

pub returns-in-None : goal.returns-in-None
returns-in-None g c =
    let last : suc c.in_ok-last.last ≡ length c.args.chunks.now = omega (arith, c.in_ok-last.ensures.0, c.in_ok-last.ensures.1, c.len.ensures) in
    last_emptied-flat c.args.chunks.now c.remove-first.new.self.items c.in_ok-last.last c.index_mut.result.now (record { first = c.index_mut.result.now.first; rest = c.pop.new.self; mark = c.index_mut.result.now.mark })
    c.remove-first.result last (rw c.chunks.view_is at c.index_mut.ensures.value) (rw c.chunks.view_is at c.remove-first.ensures.value) (rw c.chunks.view_is at c.remove-first.ensures.by_index.2) c.in-None.ensures.items refl (omega (arith, c.in-None.ensures.cases.1))

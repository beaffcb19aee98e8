use Rattle.std.proofs.Common.{suc, ◌≡◌, ap, length, arith}
use Rattle.std.proofs.lemmas.Result.{on_ok_weaker, on_err_weaker}
use Rattle.range_list.specs.Chunks.{items_of}
use Rattle.range_list.proofs.Inserted.{flat-kept}
use Rattle.range_list.proofs.Behind.{flat-last, AreChunks-last, as_long-pushed}
use Rattle.range_list.proofs.appending.push_in.Goals as goal

pub returns-clause-items : goal.returns-clause-items
returns-clause-items g c =
    rw c.chunks.view_is
    (let last : suc c.args.last ≡ length c.args.chunks.now = omega (arith, c.requires.last) in
    on_ok_weaker c.push.result
    (λ put. flat-last c.args.chunks.now c.args.last c.index_mut.result.now c.push.new.self last (rw c.chunks.view_is at c.index_mut.ensures.value) c.args.item put)
    c.push.ensures.items)

pub returns-clause-unchanged : goal.returns-clause-unchanged
returns-clause-unchanged g c =
    rw c.chunks.view_is
    (on_err_weaker c.push.result
    (λ kept. flat-kept c.args.chunks.now c.args.last c.index_mut.result.now c.push.new.self (omega (arith, c.requires.last)) (rw c.chunks.view_is at c.index_mut.ensures.value) kept)
    c.push.ensures.unchanged)

pub invariant_of-chunks : goal.invariant_of-chunks
invariant_of-chunks g c =
    rw c.chunks.view_is
    (let read = rw c.chunks.view_is at c.index_mut.ensures.value in
    let last : suc c.args.last ≡ length c.args.chunks.now = omega (arith, c.requires.last) in
    AreChunks-last g.M.Mark.of g.M.Mark.moved g.met.M.Mark.adds c.args.chunks.now c.args.last c.index_mut.result.now c.push.new.self last read (rw c.chunks.view_is at c.chunks.invariant) c.push.ensures.mark
    (omega (
      arith,
      as_long-pushed c.index_mut.result.now c.push.new.self c.args.item c.push.result c.push.ensures.items c.push.ensures.unchanged,
      c.requires.room c.index_mut.result.now,
      ap (λ x. length (items_of x)) read,
    )))

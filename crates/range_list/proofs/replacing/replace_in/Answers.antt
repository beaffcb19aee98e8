use Rattle.std.proofs.lemmas.Result.{on_ok_weaker, on_err_weaker}
use Rattle.range_list.proofs.Inserted.{flat-kept}
use Rattle.range_list.proofs.InOrder.{index-at}
use Rattle.range_list.proofs.Replaced.{flat-replaced, AreChunks-either}
use Rattle.range_list.proofs.replacing.replace_in.Goals as goal

pub returns-clause-items : goal.returns-clause-items
returns-clause-items g c =
    rw c.chunks.view_is
    (let read = rw c.chunks.view_is at c.index_mut.ensures.value in
    on_ok_weaker c.replace.result
    (λ e. flat-replaced c.args.chunks.now c.args.from.chunk c.args.from.index c.args.to c.index_mut.result.now c.replace.new.self c.args.list.items c.requires.from.chunk read
    c.requires.ordered (index-at c.args.chunks.now (record { chunk = c.args.from.chunk; index = c.args.to }) c.index_mut.result.now c.requires.to read) e)
    c.replace.ensures.items)

pub returns-clause-unchanged : goal.returns-clause-unchanged
returns-clause-unchanged g c =
    rw c.chunks.view_is
    (on_err_weaker c.replace.result
    (λ e. flat-kept c.args.chunks.now c.args.from.chunk c.index_mut.result.now c.replace.new.self c.requires.from.chunk (rw c.chunks.view_is at c.index_mut.ensures.value) e)
    c.replace.ensures.unchanged)

pub invariant_of-chunks : goal.invariant_of-chunks
invariant_of-chunks g c =
    rw c.chunks.view_is
    (let read = rw c.chunks.view_is at c.index_mut.ensures.value in
    AreChunks-either g.M.Mark.of g.M.Mark.moved g.met.M.Mark.adds c.args.chunks.now c.args.from.chunk c.args.from.index c.args.to c.index_mut.result.now c.replace.new.self c.args.list.items c.requires.from.chunk read
    c.requires.ordered (index-at c.args.chunks.now (record { chunk = c.args.from.chunk; index = c.args.to }) c.index_mut.result.now c.requires.to read)
    (rw c.chunks.view_is at c.chunks.invariant) c.replace.ensures.mark (rw (← read) at (c.requires.room c.index_mut.result.now)) c.requires.alike c.replace.result c.replace.ensures.items c.replace.ensures.unchanged)

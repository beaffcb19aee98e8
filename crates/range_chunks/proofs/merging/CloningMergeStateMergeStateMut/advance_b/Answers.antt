use Rattle.std.proofs.Common.{ap, sym, ◌∙◌}
use Rattle.range_merge.specs.Changes.{taken_right}
use Rattle.range_merge.specs.Copies.{items_if}
use Rattle.range_merge.proofs.CopiesLemmas.{AreKeptThenCopies-append, taken_items-taken_right}
use Rattle.range_chunks.proofs.merging.CloningMergeStateMergeStateMut.advance_b.Goals as goal

pub returns-clause-output : goal.returns-clause-output
returns-clause-output g c =
    let right = c.self.inside.that in
    let front = c.take_front-front.result.now in
    rw (← c.self.view_is)
    (λ before so_far. AreKeptThenCopies-append g.T.EntryClone.is_copy 0 before (taken_right c.args.take c.args.n right) (items_if c.args.take front) _ _
    (taken_items-taken_right c.args.take c.args.n right ∙ ap (items_if c.args.take) (sym c.take_front-front.ensures.front)) c.in_ok-append_others.ensures so_far)

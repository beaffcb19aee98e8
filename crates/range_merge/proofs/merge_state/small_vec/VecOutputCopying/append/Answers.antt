use Rattle.range_merge.specs.Copies.{items_if}
use Rattle.range_merge.proofs.CopiesLemmas.{AreKeptThenCopies-append, IsAppended-after}
use Rattle.range_merge.proofs.merge_state.small_vec.VecOutputCopying.append.Goals as goal

pub returns-in_ok-append_copies-clause-output : goal.returns-in_ok-append_copies-clause-output
returns-in_ok-append_copies-clause-output g c = λ first before ts are.
    AreKeptThenCopies-append g.P.Copier.alike first before ts (items_if c.args.take c.args.items.now) _ _ are c.in_ok-append_copies.ensures.copied

pub returns-in_ok-append-clause-output : goal.returns-in_ok-append-clause-output
returns-in_ok-append-clause-output g c = λ first before ts are.
    let done = c.in_ok-append.ensures in
    let appended = IsAppended-after g.P.Copier.alike c.args.items.now _ _ done.kept done.copied in
    AreKeptThenCopies-append g.P.Copier.alike first before ts c.args.items.now _ _ (rw c.if-take.true at are) appended

use Rattle.std.proofs.Common.{◌≡◌, true, false, refl, arith}
use Rattle.std.proofs.lemmas.Bool.{false≢true}
use Rattle.std.proofs.lemmas.Result.{IfOk-from_err}
use Rattle.range_merge.specs.Copies.{items_if}
use Rattle.range_merge.proofs.CopiesLemmas.{AreKeptThenCopies-append, room_after}
use Rattle.range_merge.proofs.merge_state.small_vec.SmallVecOutputCopying.append.Goals as goal

pub returns-in_err-append_copies-clause-goes_on : goal.returns-in_err-append_copies-clause-goes_on
returns-in_err-append_copies-clause-goes_on g c = IfOk-from_err c.from_residual.result _ c.from_residual.ensures.0

pub returns-in_err-append_copies-clause-succeeds : goal.returns-in_err-append_copies-clause-succeeds
returns-in_err-append_copies-clause-succeeds g c =
    (λ n within room infallible.
    let refused : false ≡ true = c.in_err-append_copies.ensures.succeeds (omega arith) infallible in
    absurd (false≢true refused))

pub returns-clause-goes_on : goal.returns-clause-goes_on
returns-clause-goes_on g c = refl

pub returns-clause-output : goal.returns-clause-output
returns-clause-output g c =
    (λ first before ts are. AreKeptThenCopies-append g.P.Copier.alike first before ts (items_if c.args.take c.args.items.now) _ _ are c.in_ok-append_copies.ensures.copied)

pub returns-clause-succeeds : goal.returns-clause-succeeds
returns-clause-succeeds g c = λ _ _ _ _. refl

pub returns-clause-has_room : goal.returns-clause-has_room
returns-clause-has_room g c =
    (λ m n within room. room_after g.P.Copier.alike c.args.take c.args.items.now _ _ m n _ _ within room c.in_ok-append_copies.ensures.had_room c.in_ok-append_copies.ensures.copied)

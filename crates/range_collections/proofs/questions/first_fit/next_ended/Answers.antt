use Rattle.std.proofs.Common.{◌∷◌, ap, ◌∙◌, sym, length}
use Rattle.std.proofs.lemmas.Bool.{true≢false}
use Rattle.range_merge.specs.Boundaries.{is_odd}
use Rattle.range_collections.proofs.questions.first_fit.next_ended.Goals as goal

pub returns-in_err-end-clause-none : goal.returns-in_err-end-clause-none
returns-in_err-end-clause-none g c =
    absurd (true≢false (sym (ap (λ xs. is_odd (length xs)) (c.in_ok-start.ensures ∙ ap (λ rest. c.in_ok-start.start.now ∷ rest) c.in_err-end.ensures.0)) ∙ c.requires.even))

pub returns-clause-some : goal.returns-clause-some
returns-clause-some g c = c.in_ok-start.ensures ∙ ap (λ rest. c.in_ok-start.start.now ∷ rest) c.in_ok-end.ensures

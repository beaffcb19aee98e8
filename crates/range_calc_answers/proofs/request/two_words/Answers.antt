use Rattle.std.proofs.Common.{refl, sym, ◌∙◌}
use Rattle.range_calc_answers.specs.Words.{asked_by}
use Rattle.range_calc_answers.proofs.request.two_words.Goals as goal

pub returns-then-eq : goal.returns-then-eq
unfolding asked_by
returns-then-eq c = rw (sym c.eq.ensures ∙ c.if-eq.true) refl

pub returns-else-eq : goal.returns-else-eq
unfolding asked_by
returns-else-eq c = rw (sym c.eq.ensures ∙ c.if-eq.false) c.of_list.ensures

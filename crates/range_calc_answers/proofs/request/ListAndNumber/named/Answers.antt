use Rattle.std.proofs.Common.{refl}
use Rattle.range_calc_answers.specs.Words.{list_and_number}
use Rattle.range_calc_answers.proofs.Asked.{bytes_eq-false}
use Rattle.range_calc_answers.proofs.request.ListAndNumber.named.Goals as goal

pub returns-in-contains : goal.returns-in-contains
unfolding list_and_number
returns-in-contains c = rw c.in-contains.is refl

pub returns-in-split : goal.returns-in-split
unfolding list_and_number
returns-in-split c = rw c.in-split.is refl

pub returns-in_default : goal.returns-in_default
unfolding list_and_number
returns-in_default c =
    rw (
      bytes_eq-false _ _ c.in_default.not-contains,
      bytes_eq-false _ _ c.in_default.not-split,
    ) refl

use Rattle.std.proofs.Common.{refl}
use Rattle.range_calc_answers.specs.Words.{one_list}
use Rattle.range_calc_answers.proofs.Asked.{bytes_eq-false}
use Rattle.range_calc_answers.proofs.request.OneList.named.Goals as goal

pub returns-in-not : goal.returns-in-not
unfolding one_list
returns-in-not c = rw c.in-not.is refl

pub returns-in-show : goal.returns-in-show
unfolding one_list
returns-in-show c = rw c.in-show.is refl

pub returns-in-to_json : goal.returns-in-to_json
unfolding one_list
returns-in-to_json c = rw c.in-to_json.is refl

pub returns-in_default : goal.returns-in_default
unfolding one_list
returns-in_default c =
    rw (
      bytes_eq-false _ _ c.in_default.not-not,
      bytes_eq-false _ _ c.in_default.not-show,
      bytes_eq-false _ _ c.in_default.not-to_json,
    ) refl

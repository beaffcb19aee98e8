use Rattle.std.proofs.Common.{◌∙◌}
use Rattle.range_calc_answers.proofs.Numbers.{signed_number-parsed}
use Rattle.range_calc_answers.proofs.request.number.Goals as goal

pub returns : goal.returns
returns c = c.ok.ensures.value ∙ signed_number-parsed c.args.word.now c.parse.result c.parse.ensures.value.0

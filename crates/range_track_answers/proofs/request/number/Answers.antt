use Rattle.std.proofs.Common.{sym, ◌∙◌}
use Rattle.range_track_answers.proofs.Numerals.{number_of-parsed, number_of-none}
use Rattle.range_track_answers.proofs.request.number.Goals as goal

pub returns-then-is_numeral : goal.returns-then-is_numeral
returns-then-is_numeral c =
    c.ok.ensures.value ∙ number_of-parsed c.args.word.now c.parse.result c.parse.ensures.value.0 (sym c.is_numeral.ensures ∙ c.if-is_numeral.true)

pub returns-else-is_numeral : goal.returns-else-is_numeral
returns-else-is_numeral c = number_of-none c.args.word.now (sym c.is_numeral.ensures ∙ c.if-is_numeral.false)

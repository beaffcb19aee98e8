use Rattle.std.proofs.Common.{◌∙◌, rules, tests, arith}
use Rattle.std.specs.Char.{is_ascii_digit}
use Rattle.std.proofs.lemmas.Iterator.Adapters.{YieldsList-from_bytes}
use Rattle.std.proofs.lemmas.Iterator.Search.{all_from_yields_List}
use Rattle.range_track_answers.proofs.Numerals.{is_numeral-counted}
use Rattle.range_track_answers.proofs.request.is_numeral.Goals as goal

pub returns-in-1-to-20 : goal.returns-in-1-to-20
returns-in-1-to-20 c =
    all_from_yields_List is_ascii_digit _ _ _ c.all.ensures.ran (YieldsList-from_bytes c.args.word.now c.bytes.ensures.rest) (λ x b q k. search (rules, tests))
    ∙ is_numeral-counted c.args.word.now (omega arith) (omega arith)

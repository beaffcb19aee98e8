use Rattle.std.proofs.Common.{string_bytes, arith}
use Rattle.std.proofs.lemmas.List.{length-map}
use Rattle.range_calc_answers.specs.Words.{texts}
use Rattle.range_calc_answers.proofs.Asked.{asked_by-other_number, are_two, are_three}
use Rattle.range_calc_answers.proofs.request.Request.of.Goals as goal

pub returns-in_default : goal.returns-in_default
returns-in_default c =
    let same = length-map c.args.words.now string_bytes in
    asked_by-other_number (texts c.args.words.now) (λ e. omega (arith, c.in_default, same)) (λ e. omega (arith, c.in_default, same))

pub returns-in-2 : goal.returns-in-2
returns-in-2 c =
    let is = are_two c.args.words.now c.index-words-0.result c.index-words-1.result c.in-2.is c.index-words-0.is c.index-words-1.is in
    rw is (rw (c.as_str.ensures.value, c.as_str-in-2.ensures.value) at c.two_words.ensures)

pub returns-in-3 : goal.returns-in-3
returns-in-3 c =
    let is = are_three c.args.words.now c.index-words-0-in-3.result c.index-words-1-in-3.result c.index-words-2.result c.in-3.is c.index-words-0-in-3.is c.index-words-1-in-3.is c.index-words-2.is in
    rw is (rw (c.as_str-in-3.ensures.value, c.as_str-in-3-2.ensures.value, c.as_str-in-3-3.ensures.value) at c.three_words.ensures)

use Rattle.std.proofs.Common.{refl, codes}
use Rattle.range_calc_answers.specs.declared.answering.Status.TheVariants.{Answered, NotSorted, BadJson}
use Rattle.range_calc_answers.proofs.Outcomes.{asked-bad_words, out_of_memory-answers, out_of_memory-bad_words}
use Rattle.range_calc_answers.proofs.answering.answer.Goals as goal

pub returns-in_default-clause-answers : goal.returns-in_default-clause-answers
returns-in_default-clause-answers g c =
    (codes "bad words", rw c.in_default.ensures refl, c.in_ok-write_all.ensures.bytes)

pub returns-in_default-clause-bad_words : goal.returns-in_default-clause-bad_words
returns-in_default-clause-bad_words g c = (λ bad. c.in_default.ensures, λ none. refl)

pub returns-in_ok-write_all-in-Ok-clause-answers : goal.returns-in_ok-write_all-in-Ok-clause-answers
returns-in_ok-write_all-in-Ok-clause-answers g c =
    let text = c.in-Ok.ensures in
    let line = text.1 in
    (line.0, rw c.in-Some.ensures (text.0, line.1), rw (c.as_bytes.ensures.value, line.2) at c.in_ok-write_all-in-Ok.ensures.bytes)

pub returns-in_ok-write_all-in-Ok-clause-bad_words : goal.returns-in_ok-write_all-in-Ok-clause-bad_words
returns-in_ok-write_all-in-Ok-clause-bad_words g c = asked-bad_words Answered _ _ c.in-Some.ensures (λ bad. cc)

pub returns-in_ok-write_all-in-Err-NotSorted-clause-answers : goal.returns-in_ok-write_all-in-Err-NotSorted-clause-answers
returns-in_ok-write_all-in-Err-NotSorted-clause-answers g c =
    (codes "not strictly sorted", rw c.in-Some.ensures (rw c.in-Err-NotSorted.field-0-is at c.in-Err-NotSorted.ensures, refl), c.in_ok-write_all-in-Err-NotSorted.ensures.bytes)

pub returns-in_ok-write_all-in-Err-NotSorted-clause-bad_words : goal.returns-in_ok-write_all-in-Err-NotSorted-clause-bad_words
returns-in_ok-write_all-in-Err-NotSorted-clause-bad_words g c = asked-bad_words NotSorted _ _ c.in-Some.ensures (λ bad. cc)

pub returns-in_ok-write_all-in-Err-BadJson-clause-answers : goal.returns-in_ok-write_all-in-Err-BadJson-clause-answers
returns-in_ok-write_all-in-Err-BadJson-clause-answers g c =
    (codes "bad json", rw c.in-Some.ensures (rw c.in-Err-BadJson.field-0-is at c.in-Err-BadJson.ensures, refl), c.in_ok-write_all-in-Err-BadJson.ensures.bytes)

pub returns-in_ok-write_all-in-Err-BadJson-clause-bad_words : goal.returns-in_ok-write_all-in-Err-BadJson-clause-bad_words
returns-in_ok-write_all-in-Err-BadJson-clause-bad_words g c = asked-bad_words BadJson _ _ c.in-Some.ensures (λ bad. cc)

pub returns-in-Err-NoMemory-clause-answers : goal.returns-in-Err-NoMemory-clause-answers
returns-in-Err-NoMemory-clause-answers g c =
    out_of_memory-answers c.out_of_memory.result _ _ _ _ c.in-Some.ensures c.out_of_memory.ensures.status c.out_of_memory.ensures.line

pub returns-in-Err-NoMemory-clause-bad_words : goal.returns-in-Err-NoMemory-clause-bad_words
returns-in-Err-NoMemory-clause-bad_words g c =
    out_of_memory-bad_words c.out_of_memory.result _ _ c.in-Some.ensures c.out_of_memory.ensures.status

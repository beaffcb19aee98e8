use Rattle.std.proofs.Common.{sym}
use Rattle.range_track_answers.proofs.Words.{asked_by-more}
use Rattle.range_track_answers.proofs.request.of_two_words.Goals as goal

pub returns-in_default-Some : goal.returns-in_default-Some
returns-in_default-Some c =
    rw (c.cut.ensures, c.in_default-Some.is-1)
    (sym (asked_by-more c.args.word.now c.args.start.now c.cut.result.0.now c.in_default-Some.field-0-1.now))

use Rattle.std.proofs.Common.{◌∙◌}
use Rattle.range_track_answers.proofs.Words.{request_of-long, request_of-no_text, request_of-text}
use Rattle.range_track_answers.proofs.request.Request.of.Goals as goal

pub returns-then-line-gt-MOST_BYTES : goal.returns-then-line-gt-MOST_BYTES
returns-then-line-gt-MOST_BYTES c = request_of-long c.args.line.now c.if-line-gt-MOST_BYTES.true

pub returns-in-Err : goal.returns-in-Err
returns-in-Err c = request_of-no_text c.args.line.now c.in-Err.ensures.cases.0

pub returns-in-Ok : goal.returns-in-Ok
returns-in-Ok c =
    let told = c.in-Ok.ensures.cases in
    rw told.0 at c.of_text.ensures ∙ request_of-text c.args.line.now c.if-line-gt-MOST_BYTES.false told.1

use Rattle.std.proofs.Common.{refl}
use Rattle.serde_json.specs.View.{view}
use Rattle.range_calc_answers.specs.Words.{of_json}
use Rattle.range_calc_answers.specs.Line.{list_text}
use Rattle.range_calc_answers.proofs.Outcomes.{IsReplyTo-no_memory}
use Rattle.range_calc_answers.proofs.Readings.{IsReplyTo-unread, IsReplyTo-refused}
use Rattle.range_calc_answers.proofs.answering.json_reply.Goals as goal

pub returns-in_err-value : goal.returns-in_err-value
returns-in_err-value c =
    IsReplyTo-unread c.args.text.now c.from_residual.result c.in_err-value.field-0.0 c.in_err-value.ensures.err c.from_residual.ensures.1

pub returns-in_err-set : goal.returns-in_err-set
returns-in_err-set c =
    IsReplyTo-refused c.args.text.now (view c.in_ok-value.value) c.in_ok-value.ensures.ok c.from_residual-in_err-set.result c.from_json.result c.in_err-set.field-0.0
    c.in_err-set.was c.from_json.ensures.not_array c.from_json.ensures.not_integer c.from_residual-in_err-set.ensures.1

pub returns-in_err-line : goal.returns-in_err-line
returns-in_err-line c = IsReplyTo-no_memory (of_json c.args.text.now) c.from_residual-in_err-line.result c.from_residual-in_err-line.ensures.1

pub returns : goal.returns
returns c =
    let set = c.in_ok-set.set in
    (tt, (list_text set, (set, (view c.in_ok-value.value, c.in_ok-value.ensures.ok, c.in_ok-set.ensures.ok), refl), c.in_ok-line.ensures))

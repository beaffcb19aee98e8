use Rattle.std.proofs.Common.{refl}
use Rattle.std.specs.Fmt.{signed_decimal}
use Rattle.range_collections.specs.Text.{set_text}
use Rattle.range_calc_answers.specs.Words.{of_list}
use Rattle.range_calc_answers.specs.declared.request.OneList.TheVariants.{Not, Show, ToJson}
use Rattle.range_calc_answers.specs.Line.{array_text, list_text}
use Rattle.range_calc_answers.proofs.Numbers.{equals_of_i64}
use Rattle.range_calc_answers.proofs.Outcomes.{IsReplyText-line}
use Rattle.range_calc_answers.proofs.answering.set_reply.Goals as goal

pub returns-in-Show : goal.returns-in-Show
returns-in-Show c =
    rw c.in-Show.is (IsReplyText-line c.debug_line.result (of_list Show c.args.set) (set_text signed_decimal c.args.set) refl c.debug_line.ensures)

pub returns-in_ok-not-in-Not : goal.returns-in_ok-not-in-Not
returns-in_ok-not-in-Not c =
    let made = c.in_ok-not-in-Not in
    let negated = made.field-0 in
    let fits = made.ensures.gives.values equals_of_i64 c.requires in
    rw c.in-Not.is (IsReplyText-line c.set_line.result (of_list Not c.args.set) (list_text negated) (negated, fits, made.ensures.gives.negates, refl) c.set_line.ensures)

pub returns-in-ToJson : goal.returns-in-ToJson
returns-in-ToJson c = rw c.in-ToJson.is (IsReplyText-line c.array_line.result (of_list ToJson c.args.set) (array_text c.args.set) refl c.array_line.ensures)

use Rattle.std.proofs.Common.{◌≡◌, refl, ◌∙◌}
use Rattle.range_calc_answers.specs.Words.{numbers_of, of_list}
use Rattle.range_calc_answers.proofs.Numbers.{numbers_of-fit}
use Rattle.range_calc_answers.proofs.Outcomes.{IsReplyTo-no_memory, IsReplyTo-unsorted}
use Rattle.range_calc_answers.proofs.answering.list_reply.Goals as goal

pub returns-in_err-list : goal.returns-in_err-list
returns-in_err-list c = IsReplyTo-no_memory (of_list c.args.command (numbers_of c.args.a.now)) c.from_residual.result c.from_residual.ensures.1

pub returns-in_err-set : goal.returns-in_err-set
returns-in_err-set c =
    IsReplyTo-unsorted (of_list c.args.command (numbers_of c.args.a.now)) c.from_residual-in_err-set.result c.new.result c.in_err-set.field-0.0 (λ sorted. c.new.ensures.variant.1 (rw c.in_ok-list.ensures sorted))
    c.in_err-set.ensures.value c.from_residual-in_err-set.ensures.1

pub set_reply-requires : goal.set_reply-requires
set_reply-requires c = rw (rw c.in_ok-set.ensures.ok_part at c.new.ensures.boundaries ∙ c.in_ok-list.ensures) (numbers_of-fit c.args.a.now)

pub returns-in_err-line : goal.returns-in_err-line
returns-in_err-line c = IsReplyTo-no_memory (of_list c.args.command (numbers_of c.args.a.now)) c.from_residual-in_err-line.result c.from_residual-in_err-line.ensures.1

pub returns : goal.returns
returns c =
    let made = c.in_ok-set.ensures.ok_part in
    let sorted = (rw made at c.new.ensures.variant).0 refl in
    let set : c.in_ok-set.set ≡ numbers_of c.args.a.now = rw made at c.new.ensures.boundaries ∙ c.in_ok-list.ensures in
    (rw c.in_ok-list.ensures at sorted, rw set at c.in_ok-line.ensures)

use Rattle.std.proofs.Common.{◌≡◌, refl, ◌∙◌}
use Rattle.range_calc_answers.specs.Words.{numbers_of, of_two_lists}
use Rattle.range_calc_answers.proofs.Outcomes.{IsReplyTo-no_memory, IsReplyTo-unsorted}
use Rattle.range_calc_answers.proofs.answering.two_lists_reply.Goals as goal

pub returns-in_err-left : goal.returns-in_err-left
returns-in_err-left c = IsReplyTo-no_memory (of_two_lists c.args.command (numbers_of c.args.a.now) (numbers_of c.args.b.now)) c.from_residual.result c.from_residual.ensures.1

pub returns-in_err-right : goal.returns-in_err-right
returns-in_err-right c = IsReplyTo-no_memory (of_two_lists c.args.command (numbers_of c.args.a.now) (numbers_of c.args.b.now)) c.from_residual-in_err-right.result c.from_residual-in_err-right.ensures.1

pub returns-in_err-left-2 : goal.returns-in_err-left-2
returns-in_err-left-2 c =
    IsReplyTo-unsorted (of_two_lists c.args.command (numbers_of c.args.a.now) (numbers_of c.args.b.now)) c.from_residual-in_err-left-2.result c.new.result c.in_err-left-2.field-0.0 (λ sorted. c.new.ensures.variant.1 (rw c.in_ok-left.ensures sorted.0))
    c.in_err-left-2.ensures.value c.from_residual-in_err-left-2.ensures.1

pub returns-in_err-right-2 : goal.returns-in_err-right-2
returns-in_err-right-2 c =
    IsReplyTo-unsorted (of_two_lists c.args.command (numbers_of c.args.a.now) (numbers_of c.args.b.now)) c.from_residual-in_err-right-2.result c.new-2.result c.in_err-right-2.field-0.0 (λ sorted. c.new-2.ensures.variant.1 (rw c.in_ok-right.ensures sorted.1))
    c.in_err-right-2.ensures.value c.from_residual-in_err-right-2.ensures.1

pub returns-in_err-line : goal.returns-in_err-line
returns-in_err-line c = IsReplyTo-no_memory (of_two_lists c.args.command (numbers_of c.args.a.now) (numbers_of c.args.b.now)) c.from_residual-in_err-line.result c.from_residual-in_err-line.ensures.1

pub returns : goal.returns
returns c =
    let left = c.in_ok-left-2.ensures.ok_part in
    let right = c.in_ok-right-2.ensures.ok_part in
    let left_sorted = (rw left at c.new.ensures.variant).0 refl in
    let right_sorted = (rw right at c.new-2.ensures.variant).0 refl in
    let left_is : c.in_ok-left-2.left ≡ numbers_of c.args.a.now = rw left at c.new.ensures.boundaries ∙ c.in_ok-left.ensures in
    let right_is : c.in_ok-right-2.right ≡ numbers_of c.args.b.now = rw right at c.new-2.ensures.boundaries ∙ c.in_ok-right.ensures in
    let right_now = c.as_ref.ensures.same ∙ right_is in
    ((rw c.in_ok-left.ensures at left_sorted, rw c.in_ok-right.ensures at right_sorted), rw (left_is, right_now) at c.in_ok-line.ensures)

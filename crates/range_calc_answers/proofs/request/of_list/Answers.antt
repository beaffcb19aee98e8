use Rattle.std.proofs.Common.{refl, sym, ◌∙◌}
use Rattle.range_calc_answers.proofs.request.of_list.Goals as goal

pub returns-in_err-command : goal.returns-in_err-command
returns-in_err-command c = rw (c.in_err-command.ensures, c.from_residual.ensures) refl

pub returns-then-is_list : goal.returns-then-is_list
returns-then-is_list c = rw (c.in_ok-command.ensures, sym c.is_list.ensures ∙ c.if-is_list.true) refl

pub returns-else-is_list : goal.returns-else-is_list
returns-else-is_list c = rw (c.in_ok-command.ensures, sym c.is_list.ensures ∙ c.if-is_list.false) refl

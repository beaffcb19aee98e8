use Rattle.std.proofs.Common.{refl, sym, ◌∙◌}
use Rattle.range_calc_answers.proofs.request.of_two_lists.Goals.{else-is_list-via-then-is_list+else-is_list-2, else-is_list-via-else-is_list}
use Rattle.range_calc_answers.proofs.request.of_two_lists.Goals as goal

pub returns-in_err-command : goal.returns-in_err-command
returns-in_err-command c = rw (c.in_err-command.ensures, c.from_residual.ensures) refl

pub returns-then-is_list-2 : goal.returns-then-is_list-2
returns-then-is_list-2 c =
    let left = sym c.is_list.ensures ∙ c.if-is_list.true in
    let right = sym c.is_list-then-is_list.ensures ∙ c.if-is_list-2.true in
    rw (c.in_ok-command.ensures, left, right) refl

pub returns-else-is_list : goal.returns-else-is_list
returns-else-is_list c = elim c.else-is_list.branch [
  | else-is_list-via-then-is_list+else-is_list-2 w ↦
      let left = sym c.is_list.ensures ∙ w.if-is_list.true in
      let right = sym w.is_list-then-is_list.ensures ∙ w.if-is_list-2.false in
      rw (c.in_ok-command.ensures, left, right) refl
  | else-is_list-via-else-is_list w ↦ rw (c.in_ok-command.ensures, sym c.is_list.ensures ∙ w.if-is_list.false) refl
]

use Rattle.std.proofs.Common.{◌≡◌, Option, Some, None, refl, sym, ◌∙◌}
use Rattle.std.specs.Int.{w64}
use Rattle.std.proofs.lemmas.Int.{to_z-of_z}
use Rattle.range_calc_answers.specs.Words.{Asked, asked_of_both, list_of}
use Rattle.range_calc_answers.proofs.Numbers.{signed_number-fits}
use Rattle.range_calc_answers.proofs.request.of_list_and_number.Goals as goal

asked_of_both-None : {A B : Type 0} (query : A → B → Asked) (a : Option A) → asked_of_both query a None ≡ None
asked_of_both-None query None = refl
asked_of_both-None query (Some x) = refl

pub returns-in_err-command : goal.returns-in_err-command
returns-in_err-command c = rw (c.in_err-command.ensures, c.from_residual.ensures) refl

pub returns-in_err-n : goal.returns-in_err-n
returns-in_err-n c = rw (c.in_ok-command.ensures, sym c.in_err-n.ensures, c.from_residual-in_err-n.ensures) (asked_of_both-None _ (list_of c.args.a.now))

pub returns-then-is_list : goal.returns-then-is_list
returns-then-is_list c =
    let read = sym c.in_ok-n.ensures in
    let fits = signed_number-fits c.args.n.now c.in_ok-n.n read in
    rw (c.in_ok-command.ensures, read, sym c.is_list.ensures ∙ c.if-is_list.true, to_z-of_z w64 c.in_ok-n.n fits) refl

pub returns-else-is_list : goal.returns-else-is_list
returns-else-is_list c = rw (c.in_ok-command.ensures, sym c.in_ok-n.ensures, sym c.is_list.ensures ∙ c.if-is_list.false) refl

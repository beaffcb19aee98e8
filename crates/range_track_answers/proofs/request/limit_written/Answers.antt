use Rattle.std.proofs.Common.{refl, sym, leb, arith}
use Rattle.std.proofs.lemmas.Bool.{le-leb, leb-true, false_from_ne_true}
use Rattle.range_track_answers.specs.Limit.{limit_of}
use Rattle.range_track_answers.proofs.request.limit_written.Goals as goal

pub returns-in_err-limit-clause-value : goal.returns-in_err-limit-clause-value
unfolding limit_of
returns-in_err-limit-clause-value c = rw (c.from_residual.ensures, sym c.in_err-limit.ensures) refl

pub returns-then-limit-clause-value : goal.returns-then-limit-clause-value
unfolding limit_of
returns-then-limit-clause-value c = rw (sym c.in_ok-limit.ensures) (rw (le-leb c.in_ok-limit.limit 18446744073709551613 c.if-limit.true) refl)

pub returns-else-limit-clause-value : goal.returns-else-limit-clause-value
unfolding limit_of
returns-else-limit-clause-value c =
    let off = false_from_ne_true (leb c.in_ok-limit.limit 18446744073709551613) (λ t. let le = leb-true c.in_ok-limit.limit 18446744073709551613 t in omega (arith, le, c.if-limit.false)) in
    rw (sym c.in_ok-limit.ensures) (rw off refl)

use Rattle.std.proofs.Common.{refl, sym}
use Rattle.range_track_answers.specs.Requests.{asked_by, asked_of_range}
use Rattle.range_track_answers.proofs.Words.{bytes_eq-false}
use Rattle.range_track_answers.proofs.request.of_range.Goals as goal

pub returns-in_err-start : goal.returns-in_err-start
unfolding asked_by
returns-in_err-start c = rw (c.from_residual.ensures, sym c.in_err-start.ensures) refl

pub returns-in_err-end : goal.returns-in_err-end
unfolding asked_by
returns-in_err-end c = rw (c.from_residual-in_err-end.ensures, sym c.in_ok-start.ensures, sym c.in_err-end.ensures) refl

pub returns-in-text : goal.returns-in-text
unfolding asked_by asked_of_range
returns-in-text c = rw (sym c.in_ok-start.ensures, sym c.in_ok-end.ensures, c.in-text.is) refl

pub returns-in-text-2 : goal.returns-in-text-2
unfolding asked_by asked_of_range
returns-in-text-2 c = rw (sym c.in_ok-start.ensures, sym c.in_ok-end.ensures, c.in-text-2.is) refl

pub returns-in-text-3 : goal.returns-in-text-3
unfolding asked_by asked_of_range
returns-in-text-3 c = rw (sym c.in_ok-start.ensures, sym c.in_ok-end.ensures, c.in-text-3.is) refl

pub returns-in_default : goal.returns-in_default
unfolding asked_by asked_of_range
returns-in_default c =
    rw (
      sym c.in_ok-start.ensures,
      sym c.in_ok-end.ensures,
      bytes_eq-false _ _ c.in_default.not-text,
      bytes_eq-false _ _ c.in_default.not-text-2,
      bytes_eq-false _ _ c.in_default.not-text-3,
    ) refl

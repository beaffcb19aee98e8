use Rattle.std.proofs.Common.{refl, sym}
use Rattle.range_track_answers.specs.Requests.{asked_by}
use Rattle.range_track_answers.proofs.Words.{bytes_eq-false}
use Rattle.range_track_answers.proofs.request.of_number.Goals as goal

pub returns-in_err-number-in-missing : goal.returns-in_err-number-in-missing
unfolding asked_by
returns-in_err-number-in-missing c = rw (c.from_residual.ensures, c.in-missing.is, sym c.in_err-number-in-missing.ensures) refl

pub returns-in_ok-number-in-missing : goal.returns-in_ok-number-in-missing
unfolding asked_by
returns-in_ok-number-in-missing c = rw (c.in-missing.is, sym c.in_ok-number-in-missing.ensures) refl

pub returns-in_default : goal.returns-in_default
unfolding asked_by
returns-in_default c = rw (bytes_eq-false _ _ c.in_default.not-missing) refl

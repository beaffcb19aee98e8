use Rattle.std.proofs.Common.{refl}
use Rattle.range_track_answers.specs.Requests.{asked_by}
use Rattle.range_track_answers.proofs.Words.{bytes_eq-false}
use Rattle.range_track_answers.proofs.request.of_word.Goals as goal

pub returns-in-ranges : goal.returns-in-ranges
unfolding asked_by
returns-in-ranges c = rw c.in-ranges.is refl

pub returns-in_default : goal.returns-in_default
unfolding asked_by
returns-in_default c = rw (bytes_eq-false _ _ c.in_default.not-ranges) refl

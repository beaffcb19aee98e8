use Rattle.std.proofs.Common.{refl}
use Rattle.range_calc_answers.proofs.answering.debug_line.Goals as goal

pub returns : goal.returns
returns c = rw (c.in_ok-write.ensures.bytes, c.new-line.ensures.bytes) refl

use Rattle.std.proofs.Common.{refl}
use Rattle.range_calc_answers.proofs.answering.out_of_memory.Goals as goal

pub returns-clause-status : goal.returns-clause-status
returns-clause-status g c = refl

pub returns-clause-line : goal.returns-clause-line
returns-clause-line g c = c.in_ok-write_all.ensures.bytes

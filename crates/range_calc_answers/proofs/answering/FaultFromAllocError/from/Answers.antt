use Rattle.std.proofs.Common.{refl}
use Rattle.range_calc_answers.proofs.answering.FaultFromAllocError.from.Goals as goal

pub returns : goal.returns
returns c = refl

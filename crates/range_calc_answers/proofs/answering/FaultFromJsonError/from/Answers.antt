use Rattle.std.proofs.Common.{refl}
use Rattle.range_calc_answers.proofs.answering.FaultFromJsonError.from.Goals as goal

pub returns-in-NotArray : goal.returns-in-NotArray
returns-in-NotArray c = rw c.in-NotArray.is refl

pub returns-in-NotInteger : goal.returns-in-NotInteger
returns-in-NotInteger c = rw c.in-NotInteger.is refl

pub returns-in-OutOfMemory : goal.returns-in-OutOfMemory
returns-in-OutOfMemory c = rw c.in-OutOfMemory.is refl

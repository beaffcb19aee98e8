use Rattle.std.proofs.Common.{refl}
use Rattle.range_calc_answers.proofs.answering.Status.code.Goals as goal

pub returns-in-Answered : goal.returns-in-Answered
returns-in-Answered c = rw c.in-Answered.is refl

pub returns-in-NoMemory : goal.returns-in-NoMemory
returns-in-NoMemory c = rw c.in-NoMemory.is refl

pub returns-in-BadWords : goal.returns-in-BadWords
returns-in-BadWords c = rw c.in-BadWords.is refl

pub returns-in-NotSorted : goal.returns-in-NotSorted
returns-in-NotSorted c = rw c.in-NotSorted.is refl

pub returns-in-BadJson : goal.returns-in-BadJson
returns-in-BadJson c = rw c.in-BadJson.is refl

use Rattle.range_list.proofs.Emptied.{AreChunks-none, flat-none}
use Rattle.range_list.proofs.inserting.push_first.Goals as goal

pub invariant_of-chunks-in-Err : goal.invariant_of-chunks-in-Err
invariant_of-chunks-in-Err g c = AreChunks-none g.M.Mark.of _ c.room_for_first.ensures.none

pub returns-in-Err-clause-unchanged : goal.returns-in-Err-clause-unchanged
returns-in-Err-clause-unchanged g c = flat-none _ c.room_for_first.ensures.none

use Rattle.std.proofs.Common.{ap, length}
use Rattle.range_list.proofs.Emptied.{AreChunks-none}
use Rattle.range_list.proofs.chunk_list.ChunkList.new.Goals as goal

pub invariant_of-result : goal.invariant_of-result
invariant_of-result g c = AreChunks-none g.M.Mark.of c.new.result.items (ap length c.new.ensures.items)

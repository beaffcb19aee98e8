use Rattle.std.proofs.Common.{ap, length}
use Rattle.range_list.proofs.Emptied.{AreChunks-none}
use Rattle.range_list.proofs.chunk_list.ChunkList.clear.Goals as goal

pub invariant_of-self : goal.invariant_of-self
invariant_of-self g c = AreChunks-none g.M.Mark.of c.clear.new.self.items (ap length c.clear.ensures.items)

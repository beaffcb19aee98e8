use Rattle.std.proofs.Common.{refl}
use Rattle.range_list.proofs.list.Chunks.new.Goals as goal

pub invariant_of-result : goal.invariant_of-result
invariant_of-result g c = rw c.new.ensures refl

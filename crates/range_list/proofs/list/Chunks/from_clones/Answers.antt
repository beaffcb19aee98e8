use Rattle.range_list.proofs.Listed.{joined-lists}
use Rattle.range_list.proofs.list.Chunks.from_clones.Goals as goal

pub returns : goal.returns
returns g c = rw (joined-lists c.in_ok-clones_of.field-0) c.in_ok-clones_of.ensures.copies

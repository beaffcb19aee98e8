use Rattle.std.proofs.Common.{◌∙◌, sym}
use Rattle.range_list.proofs.Listed.{joined-lists}
use Rattle.range_list.proofs.list.Chunks.items.Goals as goal

pub returns : goal.returns
returns g c = rw (← c.self.view_is) ((rw c.as_slice.ensures at c.new.ensures) ∙ sym (joined-lists c.self.inside.chunks))

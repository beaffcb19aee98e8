use Rattle.std.proofs.Common.{◌∙◌, ap, sym, length}
use Rattle.range_list.proofs.Listed.{joined-lists}
use Rattle.range_list.proofs.list.Chunks.len.Goals as goal

pub returns : goal.returns
returns g c = rw (← c.self.view_is) (c.self.invariant ∙ ap length (sym (joined-lists c.self.inside.chunks)))

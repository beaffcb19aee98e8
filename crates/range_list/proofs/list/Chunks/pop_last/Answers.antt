use Rattle.range_list.proofs.Listed.{joined-lists}
use Rattle.range_list.proofs.list.Chunks.pop_last.Goals as goal

pub returns : goal.returns
returns g c = rw (← c.self.view_is, joined-lists c.self.inside.chunks, joined-lists c.take_last.new.chunks) c.in_ok-item.ensures

pub returns-in_err-item : goal.returns-in_err-item
returns-in_err-item g c = rw (← c.self.view_is, joined-lists c.self.inside.chunks, joined-lists c.take_last.new.chunks, c.from_residual.ensures) c.in_err-item.ensures

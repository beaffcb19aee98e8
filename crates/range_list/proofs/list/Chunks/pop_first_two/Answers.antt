use Rattle.range_list.proofs.Listed.{joined-lists}
use Rattle.range_list.proofs.list.Chunks.pop_first_two.Goals as goal

pub returns-clause-items : goal.returns-clause-items
returns-clause-items g c = rw (← c.self.view_is, joined-lists c.self.inside.chunks, joined-lists c.take_two.new.chunks) c.in_ok-two.ensures.items

pub returns-clause-only : goal.returns-clause-only
returns-clause-only g c = rw (joined-lists c.take_two.new.chunks) c.in_ok-two.ensures.only

pub returns-in_err-two-clause-items : goal.returns-in_err-two-clause-items
returns-in_err-two-clause-items g c = rw (← c.self.view_is, joined-lists c.self.inside.chunks, joined-lists c.take_two.new.chunks, c.from_residual.ensures) c.in_err-two.ensures.items

use Rattle.range_merge.proofs.Filled.{IsFilled-more}
use Rattle.range_merge.proofs.merge_state.buffer.BufferOutputUnit.append.Goals as goal

pub returns-then-take-clause-output : goal.returns-then-take-clause-output
returns-then-take-clause-output g c = λ _ before ts are so_far.
    (so_far.0, IsFilled-more before ts c.args.self.now.given c.args.items.now c.args.self.now.items.now c.write_at.new.out (rw c.if-take.true at are) c.write_at.ensures.len c.write_at.ensures.written so_far.1)

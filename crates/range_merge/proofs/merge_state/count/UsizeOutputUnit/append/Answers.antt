use Rattle.std.proofs.Common.{arith}
use Rattle.range_merge.proofs.Counts.{counts}
use Rattle.range_merge.proofs.merge_state.count.UsizeOutputUnit.append.Goals as goal

pub returns-then-take-clause-output : goal.returns-then-take-clause-output
returns-then-take-clause-output g c = λ _ before ts are so_far. rw c.if-take.true at (counts c.args.self.now c.args.take before ts c.args.items.now are so_far)

pub returns-else-take-clause-output : goal.returns-else-take-clause-output
returns-else-take-clause-output g c = λ _ before ts are so_far.
    let counted = rw c.if-take.false at (counts c.args.self.now c.args.take before ts c.args.items.now are so_far) in
    omega (arith, counted)

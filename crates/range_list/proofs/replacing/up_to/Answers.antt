use Rattle.std.proofs.Common.{arith}
use Rattle.range_list.proofs.InOrder.{earlier}
use Rattle.range_list.proofs.replacing.up_to.Goals as goal

pub returns-then-from-to-clause-same : goal.returns-then-from-to-clause-same
returns-then-from-to-clause-same g c =
    omega (arith, c.requires.ordered, earlier c.args.chunks.now c.args.from c.args.to c.requires.to (omega (arith, c.if-from-to.true)))

use Rattle.std.proofs.Common.{refl}
use Rattle.range_merge.proofs.Outputs.{remembers}
use Rattle.range_merge.proofs.merge_state.bool_op.BoolOutputUnit.append.Goals as goal

pub returns-clause-goes_on : goal.returns-clause-goes_on
returns-clause-goes_on g c = refl

pub returns-clause-output : goal.returns-clause-output
returns-clause-output g c = λ _ before ts. remembers c.args.self.now c.args.take before ts c.args._items.now c.requires.some

use Rattle.range_merge.proofs.CopySteps.{answer-changes}
use Rattle.range_merge.proofs.fast.short_runs.counted.is_on.Goals as goal

pub returns : goal.returns
returns g c = answer-changes (g.O.MergeOperation.connective c.args.op.now) c.args.ac c.args.bc _ _ c.takes_left.ensures c.takes_b.ensures

use Rattle.std.proofs.Common.{true, false}
use Rattle.range_merge.specs.Connective.{differ}
use Rattle.range_merge.proofs.EvenSteps.{chosen}
use Rattle.range_merge.proofs.fast.short_runs.copied.takes_left.Goals as goal

pub returns : goal.returns
returns g c =
    let f = g.O.MergeOperation.connective c.args.op.now in
    chosen c.args.bc _ _ (λ bc. differ (f false bc) (f true bc)) c.takes_a-off.ensures c.takes_a.ensures

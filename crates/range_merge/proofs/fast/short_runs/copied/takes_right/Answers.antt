use Rattle.std.proofs.Common.{true, false}
use Rattle.range_merge.specs.Connective.{differ}
use Rattle.range_merge.proofs.EvenSteps.{chosen}
use Rattle.range_merge.proofs.fast.short_runs.copied.takes_right.Goals as goal

pub returns : goal.returns
returns g c =
    let f = g.O.MergeOperation.connective c.args.op.now in
    chosen c.args.ac _ _ (λ ac. differ (f ac false) (f ac true)) c.takes_b-off.ensures c.takes_b.ensures

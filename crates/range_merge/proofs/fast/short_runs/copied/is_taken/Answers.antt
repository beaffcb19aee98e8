use Rattle.range_merge.proofs.EvenSteps.{takes-then}
use Rattle.range_merge.proofs.fast.short_runs.copied.is_taken.Goals as goal

pub returns : goal.returns
returns g c = λ ac then_is.
    rw (c.is_le.ensures, c.is_ge.ensures)
    (takes-then (g.O.MergeOperation.connective c.args.op.now) c.args.next ac c.args.bc c.args.then_ac _ _ then_is c.takes_left.ensures c.takes_right.ensures)

use Rattle.range_merge.proofs.CountSteps.{Counts-then}
use Rattle.range_merge.proofs.fast.short_runs.counted.four_steps.Goals as goal

pub returns-clause-steps : goal.returns-clause-steps
returns-clause-steps g c =
    Counts-then c.step-one.ensures.step (Counts-then c.step-two.ensures.step (Counts-then c.step-three.ensures.step c.step.ensures.step))

use Rattle.std.proofs.Common.{None, refl, arith}
use Rattle.std.specs.declared.cmp.Ordering.TheVariants.{Less}
use Rattle.range_merge.specs.declared.runs.Run.TheVariants.{Left}
use Rattle.range_merge.proofs.Ahead.{FirstsStand-left}
use Rattle.range_merge.proofs.Digits.{digits-half}
use Rattle.range_merge.proofs.MergeLoop.{stops-here}
use Rattle.range_merge.proofs.StagesOfMerge.{first_run-first, first_run-one}
use Rattle.range_merge.proofs.RunsRead.{first_run-left}
use Rattle.range_merge.proofs.merging.left_run.Goals as goal

pub returns-then-stops : goal.returns-then-stops
returns-then-stops g c =
    first_run-one g.met.C.Compare.total _ _ c.requires.begins.left_ascending c.requires.begins.right_ascending (Left 1) Less None _ _ refl c.requires.begins.stands
    (stops-here _ _ (c.if-stops.ensures refl) c.if-take.true)

pub returns : goal.returns
returns g c =
    let n = c.gallop.result.len in
    first_run-first g.met.C.Compare.total _ _ c.requires.begins.left_ascending c.requires.begins.right_ascending (Left n) c.gallop.result.next _ 1 _ _
    (first_run-left g.met.C.Compare.total _ _ c.requires.begins.left_ascending c.requires.begins.right_ascending
    n c.b_at.result.now c.b_at.ensures c.gallop.ensures.bracket)
    (FirstsStand-left g.C.Compare.order _ _ n c.b_at.result.now c.gallop.result.next c.b_at.ensures c.gallop.ensures.next)
    c.gallop.ensures.comparisons.at_least
    (omega (arith, c.gallop.ensures.comparisons.at_most, digits-half 0 n (omega (arith, c.gallop.ensures.bracket.some)) (omega arith)))

use Rattle.std.proofs.Common.{None, refl, arith}
use Rattle.std.specs.declared.cmp.Ordering.TheVariants.{Greater}
use Rattle.range_merge.specs.declared.runs.Run.TheVariants.{Right}
use Rattle.range_merge.proofs.Ahead.{FirstsStand-right}
use Rattle.range_merge.proofs.Digits.{digits-half}
use Rattle.range_merge.proofs.MergeLoop.{stops-here}
use Rattle.range_merge.proofs.StagesOfMerge.{first_run-first, first_run-one}
use Rattle.range_merge.proofs.RunsRead.{first_run-right}
use Rattle.range_merge.proofs.merging.right_run.Goals as goal

pub returns-then-stops : goal.returns-then-stops
returns-then-stops g c =
    first_run-one g.met.C.Compare.total _ _ c.requires.begins.left_ascending c.requires.begins.right_ascending (Right 1) Greater None _ _ refl c.requires.begins.stands
    (stops-here _ _ (c.if-stops.ensures refl) c.if-take.true)

pub returns : goal.returns
returns g c =
    let n = c.gallop-run.result.len in
    first_run-first g.met.C.Compare.total _ _ c.requires.begins.left_ascending c.requires.begins.right_ascending (Right n) c.reversed.result _ 1 _ _
    (first_run-right g.met.C.Compare.total _ _ c.requires.begins.left_ascending c.requires.begins.right_ascending
    n c.a_at.result.now c.a_at.ensures c.gallop-run.ensures.bracket)
    (rw c.reversed.ensures
    (FirstsStand-right g.C.Compare.order _ _ g.met.C.Compare.total n c.a_at.result.now c.gallop-run.result.next c.a_at.ensures c.gallop-run.ensures.next))
    c.gallop-run.ensures.comparisons.at_least
    (omega (arith, c.gallop-run.ensures.comparisons.at_most, digits-half 0 n (omega (arith, c.gallop-run.ensures.bracket.some)) (omega arith)))

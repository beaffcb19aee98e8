use Rattle.std.proofs.Common.{Ok, arith}
use Rattle.range_merge.specs.declared.merging.Went.TheVariants.{On, Stopped}
use Rattle.range_merge.proofs.Ahead.{ahead_of-le}
use Rattle.range_merge.proofs.FirstRun.{weight-le}
use Rattle.range_merge.proofs.StagesOfMerge.{Stage-none, Stage-then}
use Rattle.range_merge.proofs.Rounds.{counted-rounds, Stage-read_on}
use Rattle.range_merge.proofs.fast.short_runs.take_runs.Goals as goal

pub loop-state-init : goal.loop-state-init
loop-state-init g c = record {
  stage = Stage-none g.met.C.Compare.total c.args.state.now c.order_at-firsts.result _ _ _ c.requires.left_ascending c.requires.right_ascending c.order_at-firsts.ensures.firsts
      (omega (arith, c.order_at-firsts.ensures.comparisons)) (omega (arith, c.order_at-firsts.ensures.comparisons));
  fits = omega arith;
  no_longer = omega arith;
}

pub take_rounds-requires-clause-made : goal.take_rounds-requires-clause-made
take_rounds-requires-clause-made g c =
    omega (
      arith,
      c.loop-state.invariant.stage.counted,
      c.loop-state.invariant.fits,
      ahead_of-le c.loop-state.firsts,
      weight-le g.met.C.Compare.total _ _ c.requires.left_ascending c.requires.right_ascending,
    )

pub returns-in_default-clause-stage : goal.returns-in_default-clause-stage
returns-in_default-clause-stage g c =
    Stage-then g.met.C.Compare.total (Ok Stopped) c.loop-state.invariant.stage (rw c.in_default.is at c.in_ok-next.ensures.stage)

pub read_on-firsts-requires-clause-made : goal.read_on-firsts-requires-clause-made
read_on-firsts-requires-clause-made g c =
    let so_far = Stage-then g.met.C.Compare.total (Ok (On c.in-On.next)) c.loop-state.invariant.stage (rw c.in-On.is at c.in_ok-next.ensures.stage) in
    omega (
      arith,
      so_far.counted,
      c.loop-state.invariant.fits,
      ahead_of-le c.in-On.next,
      weight-le g.met.C.Compare.total _ _ c.requires.left_ascending c.requires.right_ascending,
    )

pub loop-state-preserved : goal.loop-state-preserved
loop-state-preserved g c =
    let rounds = rw c.in-On.is at c.in_ok-next.ensures in
    let so_far = Stage-then g.met.C.Compare.total (Ok (On c.in-On.next)) c.loop-state.invariant.stage rounds.stage in
    let read = c.read_on-firsts.ensures in
    record {
      stage = Stage-read_on g.met.C.Compare.total c.in-On.next c.read_on-firsts.result so_far
          (λ first is.
          let counted = counted-rounds c.rounds.result c.in-On.next first c.rounds.ensures rounds.whole is in
          omega (arith, counted.2, rounds.leaves counted.0 counted.1 first is, c.loop-state.invariant.stage.counted, ahead_of-le c.loop-state.firsts))
          read.ended read.some read.goes_on read.made read.comparisons read.fixed read.still_infallible;
      fits = c.loop-state.invariant.fits;
      no_longer = omega (arith, c.loop-state.invariant.no_longer, rounds.no_longer, read.no_longer);
    }

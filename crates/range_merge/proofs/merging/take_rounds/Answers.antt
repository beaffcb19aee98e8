use Rattle.std.proofs.Common.{◌≡◌, None, Ok, is_some, refl, sym, ◌∙◌, ap, arith}
use Rattle.std.proofs.lemmas.Bool.{false≢true}
use Rattle.range_merge.specs.declared.merging.Went.TheVariants.{On, Stopped}
use Rattle.range_merge.proofs.Ahead.{ahead_of-le}
use Rattle.range_merge.proofs.FirstRun.{weight-le}
use Rattle.range_merge.proofs.StagesOfMerge.{Stage-none, Stage-then}
use Rattle.range_merge.proofs.Rounds.{round-leaves, round-shorter}
use Rattle.range_merge.proofs.merging.take_rounds.Goals as goal

pub loop-remaining-init : goal.loop-remaining-init
loop-remaining-init g c = record {
  stage = Stage-none g.met.C.Compare.total c.args.state.now c.args.firsts _ _ _ c.requires.begins.left_ascending c.requires.begins.right_ascending c.requires.begins.stands (omega arith) (omega arith);
  fits = c.requires.fits;
  no_longer = omega arith;
  same = λ _. (refl, refl);
  leaves = λ n is. (n, is, omega arith);
  uncounted = λ is. is;
}

pub step_left-requires-clause-made : goal.step_left-requires-clause-made
step_left-requires-clause-made g c =
    omega (
      arith,
      c.loop-remaining.invariant.stage.counted,
      c.loop-remaining.invariant.fits,
      ahead_of-le c.loop-remaining.firsts,
      weight-le g.met.C.Compare.total _ _ c.requires.begins.left_ascending c.requires.begins.right_ascending,
    )

pub returns-in_default-clause-stage : goal.returns-in_default-clause-stage
returns-in_default-clause-stage g c =
    Stage-then g.met.C.Compare.total (Ok Stopped) c.loop-remaining.invariant.stage (rw c.in_default.is at c.in_ok-next.ensures.stage)

pub step_right-requires-clause-made : goal.step_right-requires-clause-made
step_right-requires-clause-made g c =
    let one = Stage-then g.met.C.Compare.total (Ok (On c.in-On.next)) c.loop-remaining.invariant.stage (rw c.in-On.is at c.in_ok-next.ensures.stage) in
    omega (
      arith,
      one.counted,
      c.loop-remaining.invariant.fits,
      ahead_of-le c.in-On.next,
      weight-le g.met.C.Compare.total _ _ c.requires.begins.left_ascending c.requires.begins.right_ascending,
    )

pub returns-in_default-2-clause-stage : goal.returns-in_default-2-clause-stage
returns-in_default-2-clause-stage g c =
    let one = Stage-then g.met.C.Compare.total (Ok (On c.in-On.next)) c.loop-remaining.invariant.stage (rw c.in-On.is at c.in_ok-next.ensures.stage) in
    Stage-then g.met.C.Compare.total (Ok Stopped) one (rw c.in_default-2.is at c.in_ok-next-2.ensures.stage)

pub steps_both-requires-clause-made : goal.steps_both-requires-clause-made
steps_both-requires-clause-made g c =
    let one = Stage-then g.met.C.Compare.total (Ok (On c.in-On.next)) c.loop-remaining.invariant.stage (rw c.in-On.is at c.in_ok-next.ensures.stage) in
    let two = Stage-then g.met.C.Compare.total (Ok (On c.in-On-2.next)) one (rw c.in-On-2.is at c.in_ok-next-2.ensures.stage) in
    omega (
      arith,
      two.counted,
      c.loop-remaining.invariant.fits,
      ahead_of-le c.in-On-2.next,
      weight-le g.met.C.Compare.total _ _ c.requires.begins.left_ascending c.requires.begins.right_ascending,
    )

pub returns-in_default-3-clause-stage : goal.returns-in_default-3-clause-stage
returns-in_default-3-clause-stage g c =
    let one = Stage-then g.met.C.Compare.total (Ok (On c.in-On.next)) c.loop-remaining.invariant.stage (rw c.in-On.is at c.in_ok-next.ensures.stage) in
    let two = Stage-then g.met.C.Compare.total (Ok (On c.in-On-2.next)) one (rw c.in-On-2.is at c.in_ok-next-2.ensures.stage) in
    Stage-then g.met.C.Compare.total (Ok Stopped) two (rw c.in_default-3.is at c.in_ok-next-3.ensures.stage)

pub loop-remaining-preserved : goal.loop-remaining-preserved
loop-remaining-preserved g c =
    let one = Stage-then g.met.C.Compare.total (Ok (On c.in-On.next)) c.loop-remaining.invariant.stage (rw c.in-On.is at c.in_ok-next.ensures.stage) in
    let two = Stage-then g.met.C.Compare.total (Ok (On c.in-On-2.next)) one (rw c.in-On-2.is at c.in_ok-next-2.ensures.stage) in
    let turn1 = rw c.in-On.is at c.in_ok-next.ensures.turn in
    let turn2 = rw c.in-On-2.is at c.in_ok-next-2.ensures.turn in
    let turn3 = rw c.in-On-3.is at c.in_ok-next-3.ensures.turn in
    let leaves1 = rw c.in-On.is at c.in_ok-next.ensures.leaves in
    let leaves2 = rw c.in-On-2.is at c.in_ok-next-2.ensures.leaves in
    let leaves3 = rw c.in-On-3.is at c.in_ok-next-3.ensures.leaves in
    let some = λ (is : c.loop-remaining.firsts ≡ None). false≢true (sym (c.is_some.ensures ∙ ap (λ o. is_some o) is) ∙ c.loop-remaining-test.true) in
    let round = round-leaves c.loop-remaining.firsts some leaves1 leaves2 leaves3 in
    let shorter = round-shorter c.loop-remaining.firsts some leaves1 leaves2 turn1 turn2 turn3 in
    record {
      stage = Stage-then g.met.C.Compare.total (Ok (On c.in-On-3.next)) two (rw c.in-On-3.is at c.in_ok-next-3.ensures.stage);
      fits = c.loop-remaining.invariant.fits;
      no_longer = omega (arith, c.loop-remaining.invariant.no_longer, turn1.no_longer, turn2.no_longer, turn3.no_longer);
      same = λ as_long. absurd (omega (arith, c.loop-remaining.invariant.no_longer, shorter, as_long));
      leaves = λ n is.
          let before = c.loop-remaining.invariant.leaves n is in
          let after = c.one_less-remaining.ensures.some before.0 before.1 in
          (after.0, after.1, omega (arith, before.2, after.2, round));
      uncounted = λ is. c.one_less-remaining.ensures.none (c.loop-remaining.invariant.uncounted is);
    }

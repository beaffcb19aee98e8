use Rattle.std.proofs.Common.{Ok, refl, sym, ◌∙◌, arith}
use Rattle.std.proofs.lemmas.Bool.{false≢true}
use Rattle.range_merge.specs.declared.merging.Went.TheVariants.{On, Stopped}
use Rattle.range_merge.proofs.Ahead.{ahead_of-le}
use Rattle.range_merge.proofs.FirstRun.{weight-le}
use Rattle.range_merge.proofs.StagesOfMerge.{Stage-none, Stage-then}
use Rattle.range_merge.proofs.Rounds.{Stage-more}
use Rattle.range_merge.proofs.equal_pairs.steps_both.Goals as goal

pub loop-firsts-init : goal.loop-firsts-init
loop-firsts-init g c = record {
  stage = Stage-none g.met.C.Compare.total c.args.state.now c.args.firsts _ _ _ c.requires.begins.left_ascending c.requires.begins.right_ascending c.requires.begins.stands (omega arith) (omega arith);
  no_longer = omega arith;
  same = λ _. refl;
  leaves = omega arith;
  one = λ others is. absurd (others is);
  go_on = λ some. absurd (omega (arith, some));
  others = λ _. refl;
}

pub next_pairs-pairs-requires-clause-made : goal.next_pairs-pairs-requires-clause-made
next_pairs-pairs-requires-clause-made g c =
    omega (arith, c.loop-firsts.invariant.leaves, weight-le g.met.C.Compare.total _ _ c.requires.begins.left_ascending c.requires.begins.right_ascending)

pub step_pairs-requires-clause-made : goal.step_pairs-requires-clause-made
step_pairs-requires-clause-made g c =
    omega (
      arith,
      c.loop-firsts.invariant.leaves,
      c.next_pairs-pairs.ensures.at_most,
      weight-le g.met.C.Compare.total _ _ c.requires.begins.left_ascending c.requires.begins.right_ascending,
    )

pub returns-in_default-clause-stage : goal.returns-in_default-clause-stage
returns-in_default-clause-stage g c =
    let invariant = c.loop-firsts.invariant in
    let so_far = rw (c.stand.ensures.0 c.loop-firsts-test.true) at invariant.stage in
    let further = rw c.in_default.is at c.in_ok-next.ensures.stage in
    Stage-then g.met.C.Compare.total (Ok Stopped)
    (Stage-more g.met.C.Compare.total so_far c.next_pairs-pairs.ensures.made (omega (arith, so_far.counted, invariant.leaves, c.next_pairs-pairs.ensures.at_most, ahead_of-le c.args.firsts)))
    further

pub loop-firsts-preserved : goal.loop-firsts-preserved
loop-firsts-preserved g c =
    let invariant = c.loop-firsts.invariant in
    let pairs = c.next_pairs-pairs.ensures in
    let so_far = rw (c.stand.ensures.0 c.loop-firsts-test.true) at invariant.stage in
    let further = rw c.in-On.is at c.in_ok-next.ensures in
    record {
      stage = Stage-then g.met.C.Compare.total (Ok (On c.in-On.next))
          (Stage-more g.met.C.Compare.total so_far pairs.made (omega (arith, so_far.counted, invariant.leaves, pairs.at_most, ahead_of-le c.args.firsts)))
          further.stage;
      no_longer = omega (arith, invariant.no_longer, further.shorter.0, further.shorter.1);
      same = λ as_long. absurd (omega (arith, invariant.no_longer, further.shorter.0, further.shorter.1, as_long));
      leaves = omega (arith, invariant.leaves, pairs.remaining, further.leaves);
      one = λ _ _. pairs.some;
      go_on = λ _. further.go_on;
      others = λ others. absurd (others (sym (invariant.others others) ∙ c.stand.ensures.0 c.loop-firsts-test.true));
    }

pub returns-clause-leaves : goal.returns-clause-leaves
returns-clause-leaves g c =
    let invariant = c.loop-firsts.invariant in
    record {
      one = λ is. omega (arith, invariant.leaves, invariant.one (λ still. false≢true (sym c.loop-firsts-test.false ∙ c.stand.ensures.1 still)) is);
      at_most = omega (arith, invariant.leaves);
      same = invariant.others;
    }

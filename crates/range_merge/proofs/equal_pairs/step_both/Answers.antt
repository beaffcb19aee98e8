use Rattle.std.proofs.Common.{true, None, refl, sym, ◌∙◌, arith}
use Rattle.std.proofs.lemmas.Bool.{false≢true}
use Rattle.std.specs.declared.cmp.Ordering.TheVariants.{Equal}
use Rattle.range_merge.specs.declared.runs.Run.TheVariants.{Both}
use Rattle.range_merge.proofs.Ahead.{ahead_of-le}
use Rattle.range_merge.proofs.Digits.{digits-half}
use Rattle.range_merge.proofs.FirstRun.{weight-some}
use Rattle.range_merge.proofs.StagesOfMerge.{first_run-first, first_run-one, Stage-on, Stage-stopped, Stage-refused}
use Rattle.range_merge.proofs.RunsFound.{runs-both}
use Rattle.range_merge.proofs.Rounds.{first_run-leaves}
use Rattle.range_merge.proofs.equal_pairs.step_both.Goals as goal

pub returns-in-Ok-false-clause-stage : goal.returns-in-Ok-false-clause-stage
returns-in-Ok-false-clause-stage g c =
    let takes_is = rw (c.ac.ensures, c.bc.ensures) at c.takes_both-take.ensures in
    let went = c.in-Ok-false.ensures in
    let stops = sym c.in-Ok-false.field-0-test ∙ went.goes_on in
    let front = first_run-one g.met.C.Compare.total _ _ c.requires.begins.left_ascending c.requires.begins.right_ascending Both Equal None _ _ refl c.requires.begins.stands (sym stops) in
    Stage-stopped g.met.C.Compare.total Both takes_is front
    record {
      goes_on = stops;
      lefts = λ more. absurd (false≢true more);
      rights = λ more. absurd (false≢true more);
      lefts_on = went.left_on;
      rights_on = went.right_on;
      appends = went.output;
      stays = c.advance_both.ensures.fixed;
      succeeds = λ _. refl;
      still_infallible = went.still_infallible;
    }

pub returns-in-Ok-true-clause-stage : goal.returns-in-Ok-true-clause-stage
returns-in-Ok-true-clause-stage g c =
    let takes_is = rw (c.ac.ensures, c.bc.ensures) at c.takes_both-take.ensures in
    let went = c.in-Ok-true.ensures in
    let lefts = went.unread_left c.in-Ok-true.field-0-test in
    let rights = went.unread_right c.in-Ok-true.field-0-test in
    let firsts = c.requires.begins.stands in
    let first = runs-both g.met.C.Compare.total _ _ c.requires.begins.left_ascending c.requires.begins.right_ascending (omega (arith, firsts.0)) (omega (arith, firsts.1)) firsts.2 in
    let after = rw (lefts, rights) at c.order_at.ensures.firsts in
    let front =
    first_run-first g.met.C.Compare.total _ _ c.requires.begins.left_ascending c.requires.begins.right_ascending Both c.order_at.result _ 1 _ _ first after
    (omega (arith, c.order_at.ensures.comparisons))
    (omega (arith, c.order_at.ensures.comparisons, ahead_of-le c.order_at.result, digits-half 0 1 (omega arith) (omega arith))) in
    Stage-on g.met.C.Compare.total Both takes_is front c.requires.begins.left_ascending c.requires.begins.right_ascending
    record {
      goes_on = sym c.in-Ok-true.field-0-test ∙ went.goes_on;
      lefts = λ _. lefts;
      rights = λ _. rights;
      lefts_on = went.left_on;
      rights_on = went.right_on;
      appends = went.output;
      stays = c.advance_both.ensures.fixed;
      succeeds = λ _. refl;
      still_infallible = went.still_infallible;
    }

pub returns-in-Err-clause-stage : goal.returns-in-Err-clause-stage
returns-in-Err-clause-stage g c =
    let went = c.advance_both.ensures in
    let weighs = weight-some g.met.C.Compare.total _ _ c.requires.begins.left_ascending c.requires.begins.right_ascending c.requires.begins.stands.0 in
    Stage-refused g.met.C.Compare.total Both {take = c.takes_both-take.result} c.in-Err.error (omega arith) (omega (arith, weighs))
    record {
      goes_on = tt;
      lefts = tt;
      rights = tt;
      lefts_on = tt;
      rights_on = tt;
      appends = tt;
      stays = went.fixed;
      succeeds = c.in-Err.ensures.succeeds;
      still_infallible = λ _. tt;
    }

pub returns-in-Ok-true-clause-leaves : goal.returns-in-Ok-true-clause-leaves
returns-in-Ok-true-clause-leaves g c =
    let went = c.in-Ok-true.ensures in
    let lefts = went.unread_left c.in-Ok-true.field-0-test in
    let rights = went.unread_right c.in-Ok-true.field-0-test in
    let firsts = c.requires.begins.stands in
    let first = runs-both g.met.C.Compare.total _ _ c.requires.begins.left_ascending c.requires.begins.right_ascending (omega (arith, firsts.0)) (omega (arith, firsts.1)) firsts.2 in
    let after = rw (lefts, rights) at c.order_at.ensures.firsts in
    let front =
    first_run-first g.met.C.Compare.total _ _ c.requires.begins.left_ascending c.requires.begins.right_ascending Both c.order_at.result true 1 _ _ first after
    (omega (arith, c.order_at.ensures.comparisons))
    (omega (arith, c.order_at.ensures.comparisons, ahead_of-le c.order_at.result, digits-half 0 1 (omega arith) (omega arith))) in
    first_run-leaves Both front refl lefts rights

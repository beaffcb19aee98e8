use Rattle.std.proofs.Common.{arith}
use Rattle.range_merge.specs.declared.runs.Run.TheVariants.{Right}
use Rattle.range_merge.proofs.StagesOfMerge.{Stage-none, Stage-on, Stage-stopped}
use Rattle.std.proofs.Common.{sym, refl, ◌∙◌}
use Rattle.std.proofs.lemmas.Bool.{false≢true}
use Rattle.std.specs.declared.cmp.Ordering.TheVariants.{Greater}
use Rattle.range_merge.proofs.Rounds.{Leaves-none, Leaves-one, first_run-leaves}
use Rattle.range_merge.proofs.merging.step_right.Goals as goal

pub returns-then-not-stand-clause-stage : goal.returns-then-not-stand-clause-stage
returns-then-not-stand-clause-stage g c =
    Stage-none g.met.C.Compare.total c.args.state.now c.args.firsts _ _ _ c.requires.begins.left_ascending c.requires.begins.right_ascending c.requires.begins.stands (omega arith) (omega arith)

pub returns-then-not-branch-clause-stage : goal.returns-then-not-branch-clause-stage
returns-then-not-branch-clause-stage g c =
    let takes_is = rw c.ac.ensures at c.takes_b-take.ensures in
    let ran = rw (c.in_ok-advance_right.was, c.if-not-branch.true) at c.advance_right.ensures in
    rw (c.stand.ensures.0 c.if-not-stand.false) (Stage-stopped g.met.C.Compare.total (Right c.right_run-run.result.len) takes_is c.right_run-run.ensures ran)

pub returns-clause-stage : goal.returns-clause-stage
returns-clause-stage g c =
    let takes_is = rw c.ac.ensures at c.takes_b-take.ensures in
    let ran = rw (c.in_ok-advance_right.was, c.if-not-branch.false) at c.advance_right.ensures in
    rw (c.stand.ensures.0 c.if-not-stand.false)
    (Stage-on g.met.C.Compare.total (Right c.right_run-run.result.len) takes_is c.right_run-run.ensures c.requires.begins.left_ascending c.requires.begins.right_ascending ran)

pub returns-then-not-stand-clause-leaves : goal.returns-then-not-stand-clause-leaves
returns-then-not-stand-clause-leaves g c =
    Leaves-none Greater c.args.firsts _ _ (λ is. false≢true (sym c.if-not-stand.true ∙ c.stand.ensures.1 is))

pub returns-clause-leaves : goal.returns-clause-leaves
returns-clause-leaves g c =
    let ran = rw (c.in_ok-advance_right.was, c.if-not-branch.false) at c.advance_right.ensures in
    rw (c.stand.ensures.0 c.if-not-stand.false)
    (Leaves-one Greater _ _ _ _ _ (first_run-leaves (Right c.right_run-run.result.len) c.right_run-run.ensures (sym ran.goes_on) (ran.lefts refl) (ran.rights refl)))

use Rattle.std.proofs.Common.{◌+◌, length, refl, sym, ap, ◌∙◌, arith}
use Rattle.std.proofs.lemmas.Result.{on_ok_weaker}
use Rattle.range_merge.specs.Boundaries.{is_odd}
use Rattle.range_merge.specs.Changes.{taken_left}
use Rattle.range_merge.specs.Copies.{items_if}
use Rattle.range_merge.proofs.Parity.{unequal-differ}
use Rattle.range_merge.proofs.CopiesLemmas.{taken_items-taken_left}
use Rattle.range_merge.proofs.Outputs.{IfOk-always, length-front, length-parted, All-front, All-rest}
use Rattle.range_merge.proofs.merge_state.over_slices.SliceMergeStateMergeStateMut.advance_a.Goals as goal

pub take_front-front-requires : goal.take_front-front-requires
take_front-front-requires g c = rw (← c.self.view_is) at c.requires.within

pub append-requires-clause-some : goal.append-requires-clause-some
append-requires-clause-some g c =
    let within = rw (← c.self.view_is) at c.requires.within in
    rw (length-front c.args.n c.self.inside.a c.take_front-front.result.now within c.take_front-front.ensures.front) c.requires.some

pub append-requires-clause-fits : goal.append-requires-clause-fits
append-requires-clause-fits g c =
    let within = rw (← c.self.view_is) at c.requires.within in
    let whole = length-parted c.args.n c.self.inside.a c.take_front-front.result.now c.take_front-front.new.self within c.take_front-front.ensures.front c.take_front-front.ensures.rest in
    (length c.self.inside.a + length c.self.inside.b, omega arith, c.self.invariant)

pub invariant_of-self : goal.invariant_of-self
invariant_of-self g c =
    let within = rw (← c.self.view_is) at c.requires.within in
    let whole = length-parted c.args.n c.self.inside.a c.take_front-front.result.now c.take_front-front.new.self within c.take_front-front.ensures.front c.take_front-front.ensures.rest in
    c.append.ensures.fits (length c.take_front-front.new.self + length c.self.inside.b) (length c.self.inside.a + length c.self.inside.b) (omega arith) c.self.invariant

pub returns-clause-goes_on : goal.returns-clause-goes_on
returns-clause-goes_on g c = c.append.ensures.goes_on

pub returns-clause-unread : goal.returns-clause-unread
returns-clause-unread g c = rw (← c.self.view_is) (IfOk-always c.append.result _ (λ _ _. c.take_front-front.ensures.rest))

pub returns-clause-other : goal.returns-clause-other
returns-clause-other g c = rw (← c.self.view_is) (IfOk-always c.append.result _ (λ _ _. refl))

pub returns-clause-on : goal.returns-clause-on
returns-clause-on g c = rw (← c.self.view_is) (IfOk-always c.append.result _ (λ _. unequal-differ c.self.inside.ac (is_odd c.args.n)))

pub returns-clause-other_on : goal.returns-clause-other_on
returns-clause-other_on g c = rw (← c.self.view_is) (IfOk-always c.append.result _ (λ _. refl))

pub returns-clause-output : goal.returns-clause-output
returns-clause-output g c =
    let taken = taken_items-taken_left c.args.take c.args.n c.self.inside.a ∙ ap (items_if c.args.take) (sym c.take_front-front.ensures.front) in
    rw (← c.self.view_is)
    (on_ok_weaker c.append.result (λ appends before so_far. rw (c.append.ensures.fixed _) (appends _ before (taken_left c.args.take c.args.n c.self.inside.a) taken so_far)) c.append.ensures.output)

pub returns-clause-fixed : goal.returns-clause-fixed
returns-clause-fixed g c = rw (← c.self.view_is) (c.append.ensures.fixed _)

pub returns-clause-succeeds : goal.returns-clause-succeeds
returns-clause-succeeds g c =
    let within = rw (← c.self.view_is) at c.requires.within in
    let whole = length-parted c.args.n c.self.inside.a c.take_front-front.result.now c.take_front-front.new.self within c.take_front-front.ensures.front c.take_front-front.ensures.rest in
    rw (← c.self.view_is)
    (λ infallible. c.append.ensures.succeeds (length c.self.inside.a + length c.self.inside.b) (omega arith) infallible.0
    (All-front g.O.Output.is_infallible c.args.n c.self.inside.a c.take_front-front.result.now c.take_front-front.ensures.front infallible.1))

pub returns-clause-still_infallible : goal.returns-clause-still_infallible
returns-clause-still_infallible g c =
    let within = rw (← c.self.view_is) at c.requires.within in
    let whole = length-parted c.args.n c.self.inside.a c.take_front-front.result.now c.take_front-front.new.self within c.take_front-front.ensures.front c.take_front-front.ensures.rest in
    rw (← c.self.view_is)
    (λ infallible. on_ok_weaker c.append.result
    (λ still. (still, All-rest g.O.Output.is_infallible c.args.n c.self.inside.a c.take_front-front.new.self c.take_front-front.ensures.rest infallible.1, infallible.2))
    (c.append.ensures.has_room (length c.take_front-front.new.self + length c.self.inside.b) (length c.self.inside.a + length c.self.inside.b) (omega arith) infallible.0))

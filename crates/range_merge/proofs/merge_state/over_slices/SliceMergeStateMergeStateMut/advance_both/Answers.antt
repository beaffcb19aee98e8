use Rattle.std.proofs.Common.{◌≡◌, ◌+◌, ◌-◌, length, refl, sym, ap, ◌∙◌, arith}
use Rattle.std.proofs.lemmas.List.{length-drop}
use Rattle.std.proofs.lemmas.Result.{on_ok_weaker}
use Rattle.range_merge.specs.Changes.{taken_left}
use Rattle.range_merge.specs.Copies.{items_if}
use Rattle.range_merge.proofs.CopiesLemmas.{taken_items-taken_left}
use Rattle.range_merge.proofs.Outputs.{IfOk-always, length-front, length-parted, All-front, All-rest}
use Rattle.range_merge.proofs.merge_state.over_slices.SliceMergeStateMergeStateMut.advance_both.Goals as goal

pub take_front-front-requires : goal.take_front-front-requires
take_front-front-requires g c = rw (← c.self.view_is) at c.requires.left_some

pub drop_front-requires : goal.drop_front-requires
drop_front-requires g c = rw (← c.self.view_is) at c.requires.right_some

pub append-requires-clause-some : goal.append-requires-clause-some
append-requires-clause-some g c =
    let left_some = rw (← c.self.view_is) at c.requires.left_some in
    omega (arith, length-front 1 c.self.inside.a c.take_front-front.result.now left_some c.take_front-front.ensures.front)

pub append-requires-clause-fits : goal.append-requires-clause-fits
append-requires-clause-fits g c =
    let left_some = rw (← c.self.view_is) at c.requires.left_some in
    let whole = length-parted 1 c.self.inside.a c.take_front-front.result.now c.take_front-front.new.self left_some c.take_front-front.ensures.front c.take_front-front.ensures.rest in
    (length c.self.inside.a + length c.self.inside.b, omega arith, c.self.invariant)

pub invariant_of-self : goal.invariant_of-self
invariant_of-self g c =
    let left_some = rw (← c.self.view_is) at c.requires.left_some in
    let whole = length-parted 1 c.self.inside.a c.take_front-front.result.now c.take_front-front.new.self left_some c.take_front-front.ensures.front c.take_front-front.ensures.rest in
    let right : length c.drop_front.new.self ≡ length c.self.inside.b - 1 = ap length c.drop_front.ensures ∙ length-drop 1 c.self.inside.b in
    c.append.ensures.fits (length c.take_front-front.new.self + length c.drop_front.new.self) (length c.self.inside.a + length c.self.inside.b) (omega arith) c.self.invariant

pub returns-clause-goes_on : goal.returns-clause-goes_on
returns-clause-goes_on g c = c.append.ensures.goes_on

pub returns-clause-unread_left : goal.returns-clause-unread_left
returns-clause-unread_left g c = rw (← c.self.view_is) (IfOk-always c.append.result _ (λ _ _. c.take_front-front.ensures.rest))

pub returns-clause-unread_right : goal.returns-clause-unread_right
returns-clause-unread_right g c = rw (← c.self.view_is) (IfOk-always c.append.result _ (λ _ _. c.drop_front.ensures))

pub returns-clause-left_on : goal.returns-clause-left_on
returns-clause-left_on g c = rw (← c.self.view_is) (IfOk-always c.append.result _ (λ _. refl))

pub returns-clause-right_on : goal.returns-clause-right_on
returns-clause-right_on g c = rw (← c.self.view_is) (IfOk-always c.append.result _ (λ _. refl))

pub returns-clause-output : goal.returns-clause-output
returns-clause-output g c =
    let taken = taken_items-taken_left c.args.take 1 c.self.inside.a ∙ ap (items_if c.args.take) (sym c.take_front-front.ensures.front) in
    rw (← c.self.view_is)
    (on_ok_weaker c.append.result (λ appends before so_far. rw (c.append.ensures.fixed _) (appends _ before (taken_left c.args.take 1 c.self.inside.a) taken so_far)) c.append.ensures.output)

pub returns-clause-fixed : goal.returns-clause-fixed
returns-clause-fixed g c = rw (← c.self.view_is) (c.append.ensures.fixed _)

pub returns-clause-succeeds : goal.returns-clause-succeeds
returns-clause-succeeds g c =
    let left_some = rw (← c.self.view_is) at c.requires.left_some in
    let whole = length-parted 1 c.self.inside.a c.take_front-front.result.now c.take_front-front.new.self left_some c.take_front-front.ensures.front c.take_front-front.ensures.rest in
    rw (← c.self.view_is)
    (λ infallible. c.append.ensures.succeeds (length c.self.inside.a + length c.self.inside.b) (omega arith) infallible.0
    (All-front g.O.Output.is_infallible 1 c.self.inside.a c.take_front-front.result.now c.take_front-front.ensures.front infallible.1))

pub returns-clause-still_infallible : goal.returns-clause-still_infallible
returns-clause-still_infallible g c =
    let left_some = rw (← c.self.view_is) at c.requires.left_some in
    let whole = length-parted 1 c.self.inside.a c.take_front-front.result.now c.take_front-front.new.self left_some c.take_front-front.ensures.front c.take_front-front.ensures.rest in
    let right : length c.drop_front.new.self ≡ length c.self.inside.b - 1 = ap length c.drop_front.ensures ∙ length-drop 1 c.self.inside.b in
    rw (← c.self.view_is)
    (λ infallible. on_ok_weaker c.append.result
    (λ still. (still, All-rest g.O.Output.is_infallible 1 c.self.inside.a c.take_front-front.new.self c.take_front-front.ensures.rest infallible.1, All-rest g.O.Output.is_infallible 1 c.self.inside.b c.drop_front.new.self c.drop_front.ensures infallible.2))
    (c.append.ensures.has_room (length c.take_front-front.new.self + length c.drop_front.new.self) (length c.self.inside.a + length c.self.inside.b) (omega arith) infallible.0))

use Rattle.std.proofs.Common.{rules, refl, arith}
use Rattle.std.proofs.lemmas.List.{length-drop}
use Rattle.range_merge.proofs.in_place.InPlaceStateMergeStateMut.advance_both.Goals as goal

pub keep_if-requires : goal.keep_if-requires
keep_if-requires g c = (search rules, rw (← c.self.view_is) at c.requires.left_some)

pub drop_front-requires : goal.drop_front-requires
drop_front-requires g c = rw (← c.self.view_is) at c.requires.right_some

pub invariant_of-self : goal.invariant_of-self
invariant_of-self g c = rw (c.drop_front.ensures, length-drop, c.keep_if.ensures.puts_left) (omega (arith, c.self.invariant))

pub returns-clause-goes_on : goal.returns-clause-goes_on
returns-clause-goes_on g c = refl

pub returns-clause-unread_left : goal.returns-clause-unread_left
returns-clause-unread_left g c = rw (← c.self.view_is) (λ _. c.keep_if.ensures.unread)

pub returns-clause-unread_right : goal.returns-clause-unread_right
returns-clause-unread_right g c = rw (← c.self.view_is) (λ _. c.drop_front.ensures)

pub returns-clause-left_on : goal.returns-clause-left_on
returns-clause-left_on g c = rw (← c.self.view_is) refl

pub returns-clause-right_on : goal.returns-clause-right_on
returns-clause-right_on g c = rw (← c.self.view_is) refl

pub returns-clause-output : goal.returns-clause-output
returns-clause-output g c =
    let builder = c.self.inside.builder in
    rw (← c.self.view_is) (λ before. c.left_items_stay.ensures c.args.take 1 builder.unread builder.kept c.keep_if.new.self.kept before c.keep_if.ensures.kept)

pub returns-clause-fixed : goal.returns-clause-fixed
returns-clause-fixed g c = rw (← c.self.view_is) c.keep_if.ensures.room

pub returns-clause-succeeds : goal.returns-clause-succeeds
returns-clause-succeeds g c = λ _. refl

pub returns-clause-still_infallible : goal.returns-clause-still_infallible
returns-clause-still_infallible g c = λ _. tt

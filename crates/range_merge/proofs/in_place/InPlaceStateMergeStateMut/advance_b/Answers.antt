use Rattle.std.proofs.Common.{rules, refl}
use Rattle.range_merge.specs.Boundaries.{is_odd}
use Rattle.range_merge.proofs.Parity.{unequal-differ}
use Rattle.range_merge.proofs.in_place.InPlaceStateMergeStateMut.advance_b.Goals as goal

pub put_or_drop-requires : goal.put_or_drop-requires
put_or_drop-requires g c = (search rules, (rw (← c.self.view_is) at c.requires.within, c.self.invariant))

pub invariant_of-self : goal.invariant_of-self
invariant_of-self g c = c.put_or_drop.ensures.puts

pub returns-clause-goes_on : goal.returns-clause-goes_on
returns-clause-goes_on g c = refl

pub returns-clause-unread : goal.returns-clause-unread
returns-clause-unread g c = rw (← c.self.view_is) (λ _. c.put_or_drop.ensures.rest)

pub returns-clause-other : goal.returns-clause-other
returns-clause-other g c = rw (← c.self.view_is) (λ _. c.put_or_drop.ensures.unread)

pub returns-clause-on : goal.returns-clause-on
returns-clause-on g c = rw (← c.self.view_is) (unequal-differ c.self.inside.bc (is_odd c.args.n))

pub returns-clause-other_on : goal.returns-clause-other_on
returns-clause-other_on g c = rw (← c.self.view_is) refl

pub returns-clause-output : goal.returns-clause-output
returns-clause-output g c = rw (← c.self.view_is) c.put_or_drop.ensures.kept

pub returns-clause-fixed : goal.returns-clause-fixed
returns-clause-fixed g c = rw (← c.self.view_is) c.put_or_drop.ensures.room

pub returns-clause-succeeds : goal.returns-clause-succeeds
returns-clause-succeeds g c = λ _. refl

pub returns-clause-still_infallible : goal.returns-clause-still_infallible
returns-clause-still_infallible g c = λ _. tt

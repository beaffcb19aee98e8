use Rattle.std.proofs.Common.{refl, rules}
use Rattle.range_merge.proofs.in_place.InPlaceState.over.Goals as goal

pub over-requires : goal.over-requires
over-requires g c = (search rules, c.requires.room)

pub invariant_of-result : goal.invariant_of-result
invariant_of-result g c = rw c.over.ensures.puts_left c.requires.puts

pub returns-clause-left : goal.returns-clause-left
returns-clause-left g c = c.over.ensures.unread

pub returns-clause-right : goal.returns-clause-right
returns-clause-right g c = refl

pub returns-clause-left_on : goal.returns-clause-left_on
returns-clause-left_on g c = refl

pub returns-clause-right_on : goal.returns-clause-right_on
returns-clause-right_on g c = refl

pub returns-clause-kept : goal.returns-clause-kept
returns-clause-kept g c = c.over.ensures.kept

pub returns-clause-room : goal.returns-clause-room
returns-clause-room g c = c.over.ensures.room

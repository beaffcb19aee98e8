use Rattle.std.proofs.Common.{refl, ◌∙◌}
use Rattle.range_merge.proofs.in_place.builder.InPlaceBuilder+K+N.new.Goals as goal

pub returns-in-Ok-clause-kept : goal.returns-in-Ok-clause-kept
returns-in-Ok-clause-kept g c = c.over.ensures.kept

pub returns-in-Ok-clause-unread : goal.returns-in-Ok-clause-unread
returns-in-Ok-clause-unread g c = c.over.ensures.unread ∙ c.prepared.ensures.items

pub returns-in-Ok-clause-puts_left : goal.returns-in-Ok-clause-puts_left
returns-in-Ok-clause-puts_left g c = c.over.ensures.puts_left

pub returns-in-Err-clause-handed_back : goal.returns-in-Err-clause-handed_back
returns-in-Err-clause-handed_back g c = c.prepared.ensures.items

pub returns-in-Ok-clause-succeeds : goal.returns-in-Ok-clause-succeeds
returns-in-Ok-clause-succeeds g c = λ _. refl

pub returns-in-Err-clause-succeeds : goal.returns-in-Err-clause-succeeds
returns-in-Err-clause-succeeds g c = c.in-Err.ensures.succeeds

pub returns-in-Ok-clause-room : goal.returns-in-Ok-clause-room
returns-in-Ok-clause-room g c = rw c.over.ensures.room c.prepared.ensures.keeps_room

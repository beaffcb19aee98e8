use Rattle.std.proofs.Common.{◌∙◌, refl}
use Rattle.range_merge.proofs.in_place.borrowed.InPlaceMergeStateRef+K+P+N.new.Goals as goal

pub returns-in-Ok-clause-left : goal.returns-in-Ok-clause-left
returns-in-Ok-clause-left g c = c.over.ensures.left ∙ c.prepared_copies.ensures.items

pub returns-in-Ok-clause-right : goal.returns-in-Ok-clause-right
returns-in-Ok-clause-right g c = c.over.ensures.right ∙ c.over-right.ensures

pub returns-in-Ok-clause-left_on : goal.returns-in-Ok-clause-left_on
returns-in-Ok-clause-left_on g c = c.over.ensures.left_on

pub returns-in-Ok-clause-right_on : goal.returns-in-Ok-clause-right_on
returns-in-Ok-clause-right_on g c = c.over.ensures.right_on

pub returns-in-Ok-clause-kept : goal.returns-in-Ok-clause-kept
returns-in-Ok-clause-kept g c = c.over.ensures.kept

pub returns-in-Ok-clause-succeeds : goal.returns-in-Ok-clause-succeeds
returns-in-Ok-clause-succeeds g c = λ _ _. refl

pub returns-in-Err-clause-handed_back : goal.returns-in-Err-clause-handed_back
returns-in-Err-clause-handed_back g c = c.prepared_copies.ensures.items

pub returns-in-Err-clause-succeeds : goal.returns-in-Err-clause-succeeds
returns-in-Err-clause-succeeds g c = c.in-Err.ensures.succeeds

pub returns-in-Ok-clause-room : goal.returns-in-Ok-clause-room
returns-in-Ok-clause-room g c = rw c.over.ensures.room c.prepared_copies.ensures.keeps_room

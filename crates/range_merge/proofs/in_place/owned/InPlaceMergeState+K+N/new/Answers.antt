use Rattle.std.proofs.Common.{◌∙◌, refl}
use Rattle.range_merge.proofs.in_place.owned.InPlaceMergeState+K+N.new.Goals as goal

pub returns-in-Ok-clause-left : goal.returns-in-Ok-clause-left
returns-in-Ok-clause-left g c = c.over.ensures.left ∙ c.prepared.ensures.items

pub returns-in-Ok-clause-right : goal.returns-in-Ok-clause-right
returns-in-Ok-clause-right g c = c.over.ensures.right ∙ c.over-right.ensures

pub returns-in-Ok-clause-kept : goal.returns-in-Ok-clause-kept
returns-in-Ok-clause-kept g c = c.over.ensures.kept

pub returns-in-Err-clause-left_handed_back : goal.returns-in-Err-clause-left_handed_back
returns-in-Err-clause-left_handed_back g c = c.prepared.ensures.items

pub returns-in-Err-clause-right_handed_back : goal.returns-in-Err-clause-right_handed_back
returns-in-Err-clause-right_handed_back g c = refl

pub returns-in-Err-clause-succeeds : goal.returns-in-Err-clause-succeeds
returns-in-Err-clause-succeeds g c = rw (← c.len-extra.ensures.value) c.in-Err.ensures.succeeds

pub returns-in-Ok-clause-room : goal.returns-in-Ok-clause-room
returns-in-Ok-clause-room g c = rw c.over.ensures.room c.prepared.ensures.keeps_room

use Rattle.std.proofs.Common.{◌∙◌, sym, refl}
use Rattle.std.proofs.Math.Nat.{le-add_right, le_refl}
use Rattle.range_merge.proofs.in_place.owned.InPlaceMergeState+K+N.merge.Goals as goal

pub returns-in-Ok-clause-taken : goal.returns-in-Ok-clause-taken
returns-in-Ok-clause-taken g c =
    let over = c.over-state.ensures in
    let right = over.right ∙ c.over-right.ensures ∙ c.as_mut_slice-items.ensures.value in
    let taken = rw (over.kept, over.left, c.in-Ok.ensures.items, right) at c.merged.ensures.taken in
    rw c.replace-kept.ensures.value (sym (taken refl))

pub returns-in-Ok-clause-comparisons : goal.returns-in-Ok-clause-comparisons
returns-in-Ok-clause-comparisons g c =
    let over = c.over-state.ensures in
    let right = over.right ∙ c.over-right.ensures ∙ c.as_mut_slice-items.ensures.value in
    rw (over.left, c.in-Ok.ensures.items, right) at c.merged.ensures.comparisons

pub returns-in-Err-clause-unchanged : goal.returns-in-Err-clause-unchanged
returns-in-Err-clause-unchanged g c = c.in-Err.ensures.items

pub returns-in-Err-clause-handed_back : goal.returns-in-Err-clause-handed_back
returns-in-Err-clause-handed_back g c = refl

pub returns-in-Err-clause-succeeds : goal.returns-in-Err-clause-succeeds
returns-in-Err-clause-succeeds g c = rw (← c.len-extra.ensures.value) c.in-Err.ensures.succeeds

pub returns-in-Err-clause-comparisons : goal.returns-in-Err-clause-comparisons
returns-in-Err-clause-comparisons g c = record { at_least = le_refl _; at_most = le-add_right _ _ }

pub returns-in-Ok-clause-room : goal.returns-in-Ok-clause-room
returns-in-Ok-clause-room g c =
    rw (c.replace-kept.ensures.value, c.merged.ensures.room, c.over-state.ensures.room) c.in-Ok.ensures.keeps_room

pub returns-in-Err-clause-room : goal.returns-in-Err-clause-room
returns-in-Err-clause-room g c = c.in-Err.ensures.keeps_room

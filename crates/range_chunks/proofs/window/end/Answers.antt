use Rattle.std.proofs.Common.{arith}
use Rattle.std.proofs.lemmas.List.{map-id}
use Rattle.range_list.specs.Lists.{joined}
use Rattle.range_chunks.proofs.window.end.Goals as goal

pub place_up_to-at-requires-clause-ascending : goal.place_up_to-at-requires-clause-ascending
place_up_to-at-requires-clause-ascending g c = rw (map-id (joined c.args.list.now)) c.requires.sorted

pub returns-then-is_before-clause-above : goal.returns-then-is_before-clause-above
returns-then-is_before-clause-above g c = λ k d lo hi. (rw (map-id (joined c.args.list.now)) at c.place_up_to-at.ensures.above) k d (omega (arith, lo, c.place_after.ensures.after)) (omega (arith, hi))

pub returns-else-mark_at-clause-above : goal.returns-else-mark_at-clause-above
returns-else-mark_at-clause-above g c = λ k d lo hi. (rw (map-id (joined c.args.list.now)) at c.place_up_to-at.ensures.above) k d lo hi

pub returns-then-is_before-clause-near : goal.returns-then-is_before-clause-near
returns-then-is_before-clause-near g c = λ k d lo hi. (rw (map-id (joined c.args.list.now)) at c.place_up_to-at.ensures.up_to) k d lo (omega (arith, hi, c.place_after.ensures.after))

pub returns-else-mark_at-clause-near : goal.returns-else-mark_at-clause-near
returns-else-mark_at-clause-near g c = λ k d lo hi. (rw (map-id (joined c.args.list.now)) at c.place_up_to-at.ensures.up_to) k d lo (omega (arith, hi))

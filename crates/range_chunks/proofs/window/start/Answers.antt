use Rattle.std.proofs.Common.{arith}
use Rattle.std.proofs.lemmas.List.{map-id}
use Rattle.range_list.specs.Lists.{joined}
use Rattle.range_chunks.proofs.window.start.Goals as goal

pub place_below-at-requires-clause-ascending : goal.place_below-at-requires-clause-ascending
place_below-at-requires-clause-ascending g c = rw (map-id (joined c.args.list.now)) c.requires.sorted

pub returns-then-mark_at-clause-below : goal.returns-then-mark_at-clause-below
returns-then-mark_at-clause-below g c = λ k d lo hi. (rw (map-id (joined c.args.list.now)) at c.place_below-at.ensures.below) k d lo (omega (arith, hi, c.place_before.ensures.before))

pub returns-else-mark_at-clause-below : goal.returns-else-mark_at-clause-below
returns-else-mark_at-clause-below g c = rw (map-id (joined c.args.list.now)) at c.place_below-at.ensures.below

pub returns-then-mark_at-clause-near : goal.returns-then-mark_at-clause-near
returns-then-mark_at-clause-near g c = λ k d lo hi. (rw (map-id (joined c.args.list.now)) at c.place_below-at.ensures.from) k d (omega (arith, lo, c.place_before.ensures.before)) hi

pub returns-else-mark_at-clause-near : goal.returns-else-mark_at-clause-near
returns-else-mark_at-clause-near g c = λ k d lo hi. (rw (map-id (joined c.args.list.now)) at c.place_below-at.ensures.from) k d (omega (arith, lo)) hi

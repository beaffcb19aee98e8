use Rattle.std.proofs.Common.{◌≡◌, ◌<◌, Bool, true, false, not, length, refl, sym, ◌∙◌, arith}
use Rattle.std.proofs.lemmas.List.{map-id}
use Rattle.range_list.specs.Lists.{joined, place_at}
use Rattle.range_collections.proofs.Insertion.{same_from_beq}
use Rattle.range_chunks.proofs.OpenEnded.{settled_far, settled_near}
use Rattle.range_chunks.proofs.several.is_longer_from.Goals as goal

true_from_not : (b : Bool) → not b ≡ false → b ≡ true
true_from_not true h = refl
true_from_not false h = sym h

pub returns-then-not-is_before-clause-all_below : goal.returns-then-not-is_before-clause-all_below
returns-then-not-is_before-clause-all_below g c = λ longer k d within.
    (rw (map-id (joined c.args.list.now)) at c.place_below-at.ensures.below) k d (omega arith)
    (omega (arith, within, c.is_before.ensures.none c.if-not-is_before.true, c.end.ensures.all))

pub returns-then-not-is_before-clause-settled : goal.returns-then-not-is_before-clause-settled
returns-then-not-is_before-clause-settled g c = λ same.
    settled_near g.met.T.Ord.total c.args.inside (joined c.args.list.now) c.args.start.now (place_at c.args.list.now c.place_below-at.result)
    (c.is_before.ensures.none c.if-not-is_before.true ∙ c.end.ensures.all)
    (rw (map-id (joined c.args.list.now)) at c.place_below-at.ensures.below)
    (sym c.mark_at.ensures ∙ same_from_beq c.mark_at.result c.args.inside (true_from_not _ same))

pub returns-else-not-is_before-clause-settled : goal.returns-else-not-is_before-clause-settled
returns-else-not-is_before-clause-settled g c = λ _.
    let more : place_at c.args.list.now c.place_below-at.result < length (joined c.args.list.now) =
    omega (arith, c.is_before.ensures.some c.if-not-is_before.false, c.end.ensures.all) in
    settled_far g.met.T.Ord.total c.args.inside (joined c.args.list.now) c.args.start.now (place_at c.args.list.now c.place_below-at.result) more
    (rw (map-id (joined c.args.list.now)) at c.place_below-at.ensures.from)

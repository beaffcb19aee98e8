use Rattle.std.proofs.Common.{◌≡◌, ◌+◌, ◌≤◌, ◌∙◌, ap, None, length, arith, inl}
use Rattle.std.proofs.lemmas.List.{map-id}
use Rattle.range_collections.specs.Splicing.{spliced}
use Rattle.range_list.specs.Lists.{joined, place_at}
use Rattle.range_chunks.proofs.InTurn.{what_is_done}
use Rattle.range_chunks.proofs.PutInTurn.{place_is, taken_out, two_longer}
use Rattle.range_chunks.proofs.several.take_out_at.Goals as goal

pub place_after-requires-clause-item : goal.place_after-requires-clause-item
place_after-requires-clause-item g c =
    let it = c.requires.put.1 in
    let here = place_is g.met.T.Ord.total c.args.that.now c.args.at c.requires.put.0 (joined c.args.list.now) it c.requires.sorted c.index-that-at.result (place_at c.args.list.now c.place_below-from.result)
    c.index-that-at.is c.place_below-from.ensures.within
    (rw (map-id (joined c.args.list.now)) at c.place_below-from.ensures.below) (rw (map-id (joined c.args.list.now)) at c.place_below-from.ensures.from) in
    omega (arith, here, it.within, two_longer g.met.T.Ord.total c.args.that.now c.args.at c.requires.put.0 (joined c.args.list.now) it)

pub place_after-to-requires-clause-item : goal.place_after-to-requires-clause-item
place_after-to-requires-clause-item g c =
    let it = c.requires.put.1 in
    let here = place_is g.met.T.Ord.total c.args.that.now c.args.at c.requires.put.0 (joined c.args.list.now) it c.requires.sorted c.index-that-at.result (place_at c.args.list.now c.place_below-from.result)
    c.index-that-at.is c.place_below-from.ensures.within
    (rw (map-id (joined c.args.list.now)) at c.place_below-from.ensures.below) (rw (map-id (joined c.args.list.now)) at c.place_below-from.ensures.from) in
    omega (arith, here, it.within, c.place_after.ensures.after, two_longer g.met.T.Ord.total c.args.that.now c.args.at c.requires.put.0 (joined c.args.list.now) it)

pub returns : goal.returns
returns g c = λ items it.
    let here = place_is g.met.T.Ord.total c.args.that.now c.args.at items (joined c.args.list.now) it c.requires.sorted c.index-that-at.result (place_at c.args.list.now c.place_below-from.result)
    c.index-that-at.is c.place_below-from.ensures.within
    (rw (map-id (joined c.args.list.now)) at c.place_below-from.ensures.below) (rw (map-id (joined c.args.list.now)) at c.place_below-from.ensures.from) in
    let two : place_at c.args.list.now c.place_after-to.result ≡ place_at c.args.list.now c.place_below-from.result + 1 + 1 = omega (arith, c.place_after.ensures.after, c.place_after-to.ensures.after) in
    let out : spliced (joined c.args.list.now) (place_at c.args.list.now c.place_below-from.result) (place_at c.args.list.now c.place_after-to.result) None None ≡ items =
    taken_out g.met.T.Ord.total c.args.that.now c.args.at items (joined c.args.list.now) it (place_at c.args.list.now c.place_below-from.result) (place_at c.args.list.now c.place_after-to.result) here two in
    let fits : length (spliced (joined c.args.list.now) (place_at c.args.list.now c.place_below-from.result) (place_at c.args.list.now c.place_after-to.result) None None) ≤ length (joined c.args.list.now) =
    omega (arith, ap length out, two_longer g.met.T.Ord.total c.args.that.now c.args.at items (joined c.args.list.now) it) in
    what_is_done c.splice-taken.result _ c.splice-taken.ensures.items (c.splice-taken.ensures.succeeds (inl fits)) ∙ out

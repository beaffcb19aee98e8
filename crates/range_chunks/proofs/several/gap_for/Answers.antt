use Rattle.std.proofs.Common.{sym, ◌∙◌}
use Rattle.std.proofs.lemmas.List.{map-id}
use Rattle.range_list.specs.Lists.{joined, place_at}
use Rattle.range_collections.proofs.Insertion.{other_from_beq, other_truth, same_from_beq}
use Rattle.range_chunks.proofs.InTurn.{settled_at, settled_already, settled_by_next, gap_before_next, gap_at_end, Greater-from_not_le}
use Rattle.range_collections.proofs.Searched.{item-read}
use Rattle.range_chunks.proofs.several.gap_for.Goals as goal

pub returns-in_default-clause-settled : goal.returns-in_default-clause-settled
returns-in_default-clause-settled g c =
    settled_at g.met.T.Ord.total c.args.inside (joined c.args.list.now) c.args.start.now c.args.end.now (place_at c.args.list.now c.in_default.field-0) c.requires.less
    c.in_default.ensures.found_within (rw (map-id (joined c.args.list.now)) at c.in_default.ensures.found)

pub returns-then-mark_at-inside-clause-settled : goal.returns-then-mark_at-inside-clause-settled
returns-then-mark_at-inside-clause-settled g c =
    settled_already g.met.T.Ord.total c.args.inside (joined c.args.list.now) c.args.start.now c.args.end.now (place_at c.args.list.now c.in-Err.at) c.requires.less
    c.in-Err.ensures.missing_within (rw (map-id (joined c.args.list.now)) at c.in-Err.ensures.missing_before) (rw (map-id (joined c.args.list.now)) at c.in-Err.ensures.missing_from)
    (sym c.mark_at.ensures ∙ same_from_beq c.mark_at.result c.args.inside c.if-mark_at-inside.true)

pub returns-in-Some-clause-settled : goal.returns-in-Some-clause-settled
returns-in-Some-clause-settled g c =
    let there = rw c.in-Some.is at (item-read (joined c.args.list.now) (place_at c.args.list.now c.in-Err.at) c.item_at.result c.item_at.ensures) in
    settled_by_next g.met.T.Ord.total c.args.inside (joined c.args.list.now) c.args.start.now c.args.end.now (place_at c.args.list.now c.in-Err.at) c.requires.less
    c.in-Err.ensures.missing_within (rw (map-id (joined c.args.list.now)) at c.in-Err.ensures.missing_before) (rw (map-id (joined c.args.list.now)) at c.in-Err.ensures.missing_from)
    c.in-Some.next.now there.0 there.1 (rw (← c.cmp.ensures) (sym c.is_le.ensures ∙ c.if-is_le.true))

pub returns-in_default-item_at-clause-gap : goal.returns-in_default-item_at-clause-gap
returns-in_default-item_at-clause-gap g c =
    let there = rw c.in-Some.is at (item-read (joined c.args.list.now) (place_at c.args.list.now c.in-Err.at) c.item_at.result c.item_at.ensures) in
    gap_before_next g.met.T.Ord.total c.args.inside (joined c.args.list.now) c.args.start.now c.args.end.now (place_at c.args.list.now c.in-Err.at) c.requires.less
    c.in-Err.ensures.missing_within (rw (map-id (joined c.args.list.now)) at c.in-Err.ensures.missing_before) (rw (map-id (joined c.args.list.now)) at c.in-Err.ensures.missing_from)
    c.requires.sorted c.in-Some.next.now there.1 (Greater-from_not_le _ (rw (← c.cmp.ensures) (sym c.is_le.ensures ∙ c.if-is_le.false)))
    (other_truth _ c.args.inside (λ is. other_from_beq c.mark_at.result c.args.inside c.if-mark_at-inside.false (c.mark_at.ensures ∙ is)))

pub returns-in_default-item_at-2-clause-gap : goal.returns-in_default-item_at-2-clause-gap
returns-in_default-item_at-2-clause-gap g c =
    let past = rw c.in_default-item_at.is at (item-read (joined c.args.list.now) (place_at c.args.list.now c.in-Err.at) c.item_at.result c.item_at.ensures) in
    gap_at_end g.met.T.Ord.total c.args.inside (joined c.args.list.now) c.args.start.now c.args.end.now (place_at c.args.list.now c.in-Err.at) c.requires.less
    c.in-Err.ensures.missing_within (rw (map-id (joined c.args.list.now)) at c.in-Err.ensures.missing_before) (rw (map-id (joined c.args.list.now)) at c.in-Err.ensures.missing_from)
    past (other_truth _ c.args.inside (λ is. other_from_beq c.mark_at.result c.args.inside c.if-mark_at-inside.false (c.mark_at.ensures ∙ is)))

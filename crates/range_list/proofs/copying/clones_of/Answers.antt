use Rattle.std.proofs.Common.{◌∷◌, ◌∙◌, ◌+◌, ◌-◌, List, ap, min, length, subst}
use Rattle.std.specs.List.{AllZip}
use Rattle.range_list.specs.Chunks.{items_of}
use Rattle.range_list.proofs.Copied.{before-start, before-more}
use Rattle.range_list.proofs.copying.clones_of.Goals as goal

pub loop-first-init : goal.loop-first-init
loop-first-init g c =
    rw c.in_ok-copied.ensures.items (before-start g.T.EntryClone.is_copy g.M.Mark.of g.M.Mark.moved g.met.M.Mark.adds c.args.items.now c.front-mark.result c.front-mark.ensures)

pub loop-first-preserved : goal.loop-first-preserved
loop-first-preserved g c =
    let y = c.in_ok-chunk_of_copies.field-0 in
    rw c.in_ok-push.ensures.items
    (before-more g.T.EntryClone.is_copy g.M.Mark.of g.M.Mark.moved g.met.M.Mark.adds c.args.items.now c.loop-first.unread.now c.in-Some.others.now c.split_at.result.1.now c.in-Some.first.now c.min.result
    c.loop-first.mark c.behind-mark.result c.loop-first.copied.items y g.met.M.Mark.some c.loop-first.invariant c.in-Some.ensures.cases.0 (c.min.ensures ∙ ap (λ full. min (length c.in-Some.others.now) (full - 1)) c.FULL-in-Some.ensures) c.split_at.ensures.back
    (subst (λ zs. AllZip g.T.EntryClone.is_copy (c.in-Some.first.now ∷ zs) (items_of y)) c.split_at.ensures.front c.in_ok-chunk_of_copies.ensures.copies)
    c.in_ok-chunk_of_copies.ensures.mark
    (c.behind-mark.ensures ∙ ap (λ (zs : List _). g.M.Mark.moved c.loop-first.mark (length zs + 1)) c.split_at.ensures.front))

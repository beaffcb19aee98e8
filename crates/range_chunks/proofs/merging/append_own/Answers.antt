use Rattle.std.proofs.Common.{map, ap, sym, ◌∙◌, arith}
use Rattle.std.proofs.lemmas.List.{length-map, get_or-map}
use Rattle.range_merge.proofs.CopiesLemmas.{IsAppended-more}
use Rattle.range_chunks.proofs.merging.append_own.Goals as goal

pub loop-item-preserved : goal.loop-item-preserved
loop-item-preserved g c =
    let item = c.item-item.result in
    let items = c.args.items.now in
    rw c.in_ok-push.ensures.items
    (IsAppended-more g.T.EntryClone.is_copy (map (λ x. x.now) items) c.args.list.now.items c.loop-item.list.items c.loop-item.item-index item.now c.in_ok-entry_clone.field-0
    (omega (arith, length-map items (λ x. x.now)))
    (ap (λ x. x.now) c.item-item.is ∙ sym (get_or-map (λ x. x.now) items c.loop-item.item-index item item.now (omega arith)))
    c.in_ok-entry_clone.ensures.copy c.loop-item.invariant)

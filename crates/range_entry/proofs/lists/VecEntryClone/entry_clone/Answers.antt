use Rattle.std.proofs.lemmas.List.{take_all}
use Rattle.std.proofs.lemmas.List.Elements.{all_zip_more}
use Rattle.range_entry.specs.Copies.{copies-equal}
use Rattle.range_entry.proofs.lists.VecEntryClone.entry_clone.Goals as goal

pub loop-item-init : goal.loop-item-init
loop-item-init g c = rw c.in_ok-copied.ensures.items tt

pub loop-item-preserved : goal.loop-item-preserved
loop-item-preserved g c =
    let within = rw c.deref-item-items.ensures.value at c.loop-item-test.true in
    let is = rw c.deref-item-items.ensures.value at c.item-item.is in
    rw c.in_ok-push.ensures.items
    (all_zip_more g.T.EntryClone.is_copy c.args.self.now.items c.loop-item.copied.items c.loop-item.item-index c.item-item.result c.in_ok-entry_clone.field-0
    within is c.loop-item.invariant c.in_ok-entry_clone.ensures.copy)

pub returns-clause-copy : goal.returns-clause-copy
returns-clause-copy g c =
    let ended = rw c.deref-item-items.ensures.value at c.loop-item-test.false in
    rw (take_all c.loop-item.item-index c.args.self.now.items ended) at c.loop-item.invariant

pub returns-clause-same : goal.returns-clause-same
returns-clause-same g c =
    let ended = rw c.deref-item-items.ensures.value at c.loop-item-test.false in
    copies-equal g.T.Ord.cmp g.T.EntryClone.is_copy g.met.T.EntryClone.copy_is_equal c.args.self.now.items c.loop-item.copied.items
    (rw (take_all c.loop-item.item-index c.args.self.now.items ended) at c.loop-item.invariant)

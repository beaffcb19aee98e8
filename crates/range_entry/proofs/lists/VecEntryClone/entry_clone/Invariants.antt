-- The clones so far are copies of the items that were gone through, each in its place.
use Rattle.std.proofs.Common.{take}
use Rattle.std.specs.List.{AllZip}
use Rattle.range_entry.proofs.lists.VecEntryClone.entry_clone.Given as goal

abbrev pub invariant-loop-item : goal.invariant-loop-item
invariant-loop-item g l = AllZip g.T.EntryClone.is_copy (take l.item-index l.fn.self.items) l.copied.items

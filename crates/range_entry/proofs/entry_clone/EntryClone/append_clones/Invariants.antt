-- What was there stands first, and after it copies of the items that were gone through.
use Rattle.std.proofs.Common.{◌≡◌, ◌+◌, ◌≤◌, length, take, drop}
use Rattle.std.specs.List.{AllZip}
use Rattle.std.specs.Vec.{vec_capacity}
use Rattle.range_entry.proofs.entry_clone.EntryClone.append_clones.Given as goal

abbrev pub invariant-loop-item : goal.invariant-loop-item
invariant-loop-item g l = record {
  kept : take (length l.fn.list.items) l.list.items ≡ l.fn.list.items;
  copied : AllZip g.Self.EntryClone.is_copy (take l.item-index l.items) (drop (length l.fn.list.items) l.list.items);
  len : length l.list.items ≡ length l.fn.list.items + l.item-index;
  room : length l.fn.list.items + length l.items ≤ vec_capacity l.list;
}

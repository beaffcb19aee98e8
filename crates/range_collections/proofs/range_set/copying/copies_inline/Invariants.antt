use Rattle.std.proofs.Common.{◌≤◌, length, take}
use Rattle.std.specs.List.{AllZip}
use Rattle.range_collections.proofs.range_set.copying.copies_inline.Given as goal

abbrev pub invariant-loop-item : goal.invariant-loop-item
invariant-loop-item g l = record {
  copies : AllZip g.C.Copier.alike (take l.item-index l.items) l.list.items;
  room : length l.items ≤ l.list.capacity;
}

use Rattle.std.proofs.Common.{map, take}
use Rattle.range_merge.specs.Copies.{IsAppended}
use Rattle.range_chunks.proofs.merging.append_own.Given as goal

abbrev pub invariant-loop-item : goal.invariant-loop-item
invariant-loop-item g l =
    IsAppended g.T.EntryClone.is_copy (take l.item-index (map (λ x. x.now) l.items)) l.fn.list.items l.list.items

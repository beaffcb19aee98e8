use Rattle.std.proofs.Common.{◌≡◌, ◌++◌, map, vec_capacity}
use Rattle.std.specs.Vec.Iter.{into_iter_items}
use Rattle.range_list.specs.Chunks.{items_of}
use Rattle.range_list.proofs.moving.with_chunk.Given as goal

abbrev pub invariant-loop-item : goal.invariant-loop-item
invariant-loop-item g l = (goal.iterator-loop-item g).can_next l.item-iterator
    × (goal.iterator-loop-item g).is_finite l.item-iterator
    × (l.joined.items ++ map g.L.KeyOf.key_of (into_iter_items l.item-iterator) ≡ l.fn.list.items ++ map g.L.KeyOf.key_of (items_of l.fn.chunk))
    × (vec_capacity l.joined ≡ vec_capacity l.fn.list)

use Rattle.std.proofs.Common.{◌≡◌, ◌++◌, map, vec_capacity}
use Rattle.std.specs.Vec.Iter.{into_iter_items}
use Rattle.range_list.specs.Chunks.{flat}
use Rattle.range_list.proofs.moving.join_up.Given as goal

abbrev pub invariant-loop-chunk : goal.invariant-loop-chunk
invariant-loop-chunk g l = (goal.iterator-loop-chunk g).can_next l.chunk-iterator
    × (goal.iterator-loop-chunk g).is_finite l.chunk-iterator
    × (l.joined.items ++ map g.L.KeyOf.key_of (flat (into_iter_items l.chunk-iterator)) ≡ l.fn.list.items ++ map g.L.KeyOf.key_of (flat l.fn.chunks.items))
    × (vec_capacity l.joined ≡ vec_capacity l.fn.list)

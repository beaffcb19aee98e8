use Rattle.std.proofs.Common.{ap, map, length, length-append, arith}
use Rattle.std.proofs.lemmas.List.{length-map}
use Rattle.std.specs.Vec.Iter.{into_iter_items}
use Rattle.range_list.specs.Chunks.{items_of}
use Rattle.range_list.proofs.moving.with_chunk.Goals as goal

pub push_reserved-requires-in-loop-item : goal.push_reserved-requires-in-loop-item
push_reserved-requires-in-loop-item g c =
    let left = into_iter_items c.loop-item.item-iterator in
    omega (
      arith,
      ap length c.loop-item.invariant.2,
      length-append c.loop-item.joined.items (map g.L.KeyOf.key_of left),
      length-map left g.L.KeyOf.key_of,
      length-append c.args.list.items (map g.L.KeyOf.key_of (items_of c.args.chunk)),
      length-map (items_of c.args.chunk) g.L.KeyOf.key_of,
      ap length c.in-Some.ensures.steps.0,
      c.requires,
      c.loop-item.invariant.3,
    )

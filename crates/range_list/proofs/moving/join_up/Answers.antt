use Rattle.std.proofs.Common.{◌∙◌, ◌++◌, sym, ap, List, map, length, length-append, append_assoc, arith}
use Rattle.std.proofs.lemmas.List.{length-map, map-append}
use Rattle.std.specs.Vec.Iter.{into_iter_items}
use Rattle.range_list.specs.declared.chunk.Chunk.{Chunk}
use Rattle.range_list.specs.Chunks.{items_of, flat}
use Rattle.range_list.proofs.moving.join_up.Goals as goal

pub with_chunk-joined-requires : goal.with_chunk-joined-requires
with_chunk-joined-requires g c =
    let left = flat (into_iter_items c.loop-chunk.chunk-iterator) in
    omega (
      arith,
      ap length c.loop-chunk.invariant.2,
      length-append c.loop-chunk.joined.items (map g.L.KeyOf.key_of left),
      length-map left g.L.KeyOf.key_of,
      ap (λ (ws : List (Chunk _ _)). length (flat ws)) c.in-Some.ensures.steps.0,
      length-append (items_of c.in-Some.chunk) (flat (into_iter_items c.next.new.self)),
      length-append c.args.list.items (map g.L.KeyOf.key_of (flat c.args.chunks.items)),
      length-map (flat c.args.chunks.items) g.L.KeyOf.key_of,
      c.requires,
      c.loop-chunk.invariant.3,
    )

pub loop-chunk-preserved : goal.loop-chunk-preserved
loop-chunk-preserved g c =
    let key = g.L.KeyOf.key_of in
    let rest = flat (into_iter_items c.next.new.self) in (
      tt,
      tt,
      ap (λ zs. zs ++ map key rest) c.with_chunk-joined.ensures.items
          ∙ append_assoc c.loop-chunk.joined.items (map key (items_of c.in-Some.chunk)) (map key rest)
          ∙ ap (λ zs. c.loop-chunk.joined.items ++ zs) (sym (map-append key (items_of c.in-Some.chunk) rest))
          ∙ ap (λ (ws : List (Chunk _ _)). c.loop-chunk.joined.items ++ map key (flat ws)) (sym c.in-Some.ensures.steps.0)
          ∙ c.loop-chunk.invariant.2,
      c.with_chunk-joined.ensures.capacity ∙ c.loop-chunk.invariant.3,
    )

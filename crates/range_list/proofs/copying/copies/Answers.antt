use Rattle.std.proofs.Common.{◌∷◌, subst, take, arith}
use Rattle.std.specs.List.{AllZip}
use Rattle.std.proofs.lemmas.List.{length-take-le, take_all}
use Rattle.std.proofs.lemmas.List.Elements.{all_zip_more, length_all_zip}
use Rattle.range_list.specs.Chunks.{items_of}
use Rattle.range_list.proofs.Copied.{IsCloneOf, flat-clones, AreChunks-clones}
use Rattle.range_list.proofs.copying.copies.Goals as goal

pub push_reserved-requires : goal.push_reserved-requires
push_reserved-requires g c =
    omega (
      arith,
      length_all_zip (IsCloneOf g.C.Copier.alike) (take c.loop-chunk.chunk-index c.as_slice-all.result.now) c.loop-chunk.copied.items c.loop-chunk.invariant.copies,
      length-take-le c.loop-chunk.chunk-index c.as_slice-all.result.now (omega arith),
      c.loop-chunk.invariant.room,
    )

pub loop-chunk-preserved : goal.loop-chunk-preserved
loop-chunk-preserved g c =
    let x = c.chunk-item.result in
    let y = c.in_ok-chunk_of_copies.field-0 in
    let copied : AllZip g.C.Copier.alike (items_of x) (items_of y) =
    subst (λ zs. AllZip g.C.Copier.alike (x.first ∷ zs) (items_of y)) c.as_slice.ensures.value c.in_ok-chunk_of_copies.ensures.copies in
    record {
      copies =
          rw c.push_reserved.ensures.items
          (all_zip_more (IsCloneOf g.C.Copier.alike) c.as_slice-all.result.now c.loop-chunk.copied.items c.loop-chunk.chunk-index c.chunk-item.result
          c.in_ok-chunk_of_copies.field-0 (omega arith) c.chunk-item.is c.loop-chunk.invariant.copies (copied, c.in_ok-chunk_of_copies.ensures.mark));
      room = rw c.push_reserved.ensures.capacity c.loop-chunk.invariant.room;
    }

pub returns-clause-copies : goal.returns-clause-copies
returns-clause-copies g c =
    let copies = rw (take_all c.loop-chunk.chunk-index c.as_slice-all.result.now (omega arith)) at c.loop-chunk.invariant.copies in
    rw (← c.chunks.view_is, ← c.as_slice-all.ensures.value) (flat-clones g.C.Copier.alike c.as_slice-all.result.now c.loop-chunk.copied.items copies)

pub invariant_of-result : goal.invariant_of-result
invariant_of-result g c =
    let copies = rw (take_all c.loop-chunk.chunk-index c.as_slice-all.result.now (omega arith)) at c.loop-chunk.invariant.copies in
    AreChunks-clones g.C.Copier.alike g.M.Mark.of g.M.Mark.moved g.met.M.Mark.adds c.as_slice-all.result.now c.loop-chunk.copied.items copies
    (rw (← c.as_slice-all.ensures.value) at c.chunks.invariant)

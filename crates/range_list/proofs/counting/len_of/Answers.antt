use Rattle.std.proofs.Common.{suc, ◌+◌, ◌≡◌, ◌∙◌, ap, length, List, arith}
use Rattle.std.proofs.lemmas.List.{take_all}
use Rattle.range_list.specs.declared.chunk.Chunk.{Chunk}
use Rattle.range_list.specs.Chunks.{flat, start_of}
use Rattle.range_list.proofs.Flat.{start-next}
use Rattle.range_list.proofs.Behind.{start-most}
use Rattle.range_list.proofs.counting.len_of.Goals as goal

pub overflow_add-len : goal.overflow_add-len
overflow_add-len g c =
    omega (
      arith,
      c.loop-i.invariant,
      start-next c.args.chunks.now c.loop-i.i c.index-chunks-i.result (omega arith) c.index-chunks-i.is,
      start-most c.args.chunks.now (suc c.loop-i.i) g.met.M.Mark.few c.requires,
      c.len-more.ensures,
    )

pub loop-i-preserved : goal.loop-i-preserved
loop-i-preserved g c =
    let one : c.loop-i.i + 1 ≡ suc c.loop-i.i = omega arith in
    omega (
      arith,
      c.loop-i.invariant,
      start-next c.args.chunks.now c.loop-i.i c.index-chunks-i.result (omega arith) c.index-chunks-i.is,
      ap (λ n. start_of c.args.chunks.now n) one,
      c.len-more.ensures,
    )

pub returns : goal.returns
returns g c = c.loop-i.invariant ∙ ap (λ (ws : List (Chunk _ _)). length (flat ws)) (take_all c.loop-i.i c.args.chunks.now (omega arith))

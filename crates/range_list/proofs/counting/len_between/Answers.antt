use Rattle.std.proofs.Common.{arith}
use Rattle.range_list.proofs.Behind.{start-most}
use Rattle.range_list.proofs.InOrder.{earlier}
use Rattle.range_list.proofs.Measured.{length-chunks_between}
use Rattle.range_list.proofs.counting.len_between.Goals as goal

pub returns-then-from-to : goal.returns-then-from-to
returns-then-from-to g c = omega (arith, earlier c.args.chunks.now c.args.from c.args.to c.requires.to (omega (arith, c.if-from-to.true)))

pub overflow_add-result : goal.overflow_add-result
overflow_add-result g c =
    omega (
      arith,
      rw (c.as_slice-all.ensures.value, c.chunks.view_is) at c.len_of.ensures,
      length-chunks_between c.args.chunks.now c.args.from.chunk c.args.to.chunk (omega (arith, c.if-from-to.false)),
      start-most c.args.chunks.now c.args.to.chunk g.met.M.Mark.few (rw c.chunks.view_is at c.chunks.invariant).short,
    )

pub overflow_sub-result : goal.overflow_sub-result
overflow_sub-result g c =
    omega (
      arith,
      rw (c.as_slice-all.ensures.value, c.chunks.view_is) at c.len_of.ensures,
      length-chunks_between c.args.chunks.now c.args.from.chunk c.args.to.chunk (omega (arith, c.if-from-to.false)),
      c.requires.ordered,
    )

pub returns : goal.returns
returns g c =
    omega (
      arith,
      rw (c.as_slice-all.ensures.value, c.chunks.view_is) at c.len_of.ensures,
      length-chunks_between c.args.chunks.now c.args.from.chunk c.args.to.chunk (omega (arith, c.if-from-to.false)),
      c.requires.ordered,
    )

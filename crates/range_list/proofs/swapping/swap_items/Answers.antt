use Rattle.std.proofs.Common.{arith}
use Rattle.range_list.proofs.Swapped.{item-ordered}
use Rattle.range_list.proofs.swapping.swap_items.Goals as goal

pub swap_across-requires-clause-ordered : goal.swap_across-requires-clause-ordered
swap_across-requires-clause-ordered g c =
    omega (arith, c.if-a-b.false, item-ordered c.args.chunks.now c.args.a c.args.b c.requires.a c.requires.b c.requires.b_item c.requires.ordered)

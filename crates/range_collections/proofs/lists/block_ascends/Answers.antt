use Rattle.std.proofs.Common.{arith, refl}
use Rattle.range_collections.proofs.Blocks.{IsTrue-adjacent_more, IsTrue-ascends}
use Rattle.range_collections.proofs.lists.block_ascends.Goals as goal

pub loop-i-init : goal.loop-i-init
loop-i-init g c = (λ _ k d more. absurd (omega (arith, more)), λ _. refl)

pub loop-i-preserved : goal.loop-i-preserved
loop-i-preserved g c =
    rw (c.is_lt-ascends.ensures, c.cmp.ensures)
    (IsTrue-adjacent_more g.T.Ord.cmp c.args.items.now c.loop-i.i c.index-items-i.result c.index-items-i-in-loop-i.result c.loop-i.ascends (omega arith)
    c.index-items-i.is c.index-items-i-in-loop-i.is c.loop-i.invariant)

pub returns : goal.returns
returns g c = IsTrue-ascends g.T.Ord.cmp g.met.T.Ord.total c.args.items.now c.loop-i.i c.loop-i.ascends (omega arith) c.loop-i.invariant

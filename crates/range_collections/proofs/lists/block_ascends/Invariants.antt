use Rattle.std.proofs.Common.{◌≡◌, ◌↔◌, ◌+◌, IsTrue}
use Rattle.std.specs.List.{AllAdjacentBelow}
use Rattle.std.specs.declared.cmp.Ordering.TheVariants.{Less}
use Rattle.range_collections.proofs.lists.block_ascends.Given as goal

abbrev pub invariant-loop-i : goal.invariant-loop-i
invariant-loop-i g l = IsTrue l.ascends ↔ AllAdjacentBelow (λ x y. g.T.Ord.cmp x y ≡ Less) l.items (l.i + 1)

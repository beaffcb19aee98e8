use Rattle.std.proofs.Common.{◌≡◌, length}
use Rattle.std.specs.Cmp.Lexicographic.{pointwise}
use Rattle.range_list.specs.Lists.{joined}
use Rattle.range_chunks.proofs.iter.are_equal.Given as goal

abbrev pub invariant-loop-this : goal.invariant-loop-this
invariant-loop-this g l = pointwise g.T.PartialEq.eq (joined l.fn.these) (joined l.fn.those) ≡ pointwise g.T.PartialEq.eq l.these l.those

abbrev pub decreases-loop-this : goal.decreases-loop-this
decreases-loop-this g l = length l.these

use Rattle.std.proofs.Common.{arith}
use Rattle.range_merge.proofs.EqualPairs.{ArePairs-one}
use Rattle.range_merge.proofs.equal_pairs.are_eight.Goals as goal

pub loop-i-init : goal.loop-i-init
loop-i-init g c = record {
  pairs = λ _. ArePairs-one g.C.Compare.order _ _ c.requires.first;
  cost = omega arith;
  at_least = omega arith;
}

use Rattle.std.proofs.Common.{◌-◌, length, arith, rules}
use Rattle.range_merge.proofs.Digits.{digits-le, digits-half}
use Rattle.range_merge.proofs.Fronts.{IsWindow-after, IsWindow-before}
use Rattle.range_merge.proofs.Gallops.{Less-from_test, Greater-from_test}
use Rattle.range_merge.proofs.searching.search_by_halves.Goals as goal

pub compare-how-requires : goal.compare-how-requires
compare-how-requires g c = omega (arith, digits-le (length c.args.items.now), c.loop-low.invariant.at_most)

pub loop-low-preserved-then-is_gt : goal.loop-low-preserved-then-is_gt
loop-low-preserved-then-is_gt g c =
    IsWindow-before g.C.Compare.order g.met.C.Compare.total c.args.items.now c.args.key.now c.requires.ascending
    _ c.index-items-mid.result (omega arith) c.index-items-mid.is
    _ _ _ _ _
    (Greater-from_test _ c.compare-how.result _ c.compare-how.ensures.answer c.is_gt.ensures (search rules))
    (omega arith) (omega arith) (omega arith) c.compare-how.ensures.counted c.loop-low.invariant

pub loop-low-preserved : goal.loop-low-preserved
loop-low-preserved g c =
    IsWindow-after g.C.Compare.order g.met.C.Compare.total c.args.items.now c.args.key.now c.requires.ascending
    _ c.index-items-mid.result (omega arith) c.index-items-mid.is
    _ _ _ _ _
    (Less-from_test _ c.compare-how.result _ c.compare-how.ensures.answer c.is_lt.ensures (search rules))
    (omega arith) (omega arith) (omega arith) c.compare-how.ensures.counted c.loop-low.invariant

pub returns-else-is_lt-clause-comparisons : goal.returns-else-is_lt-clause-comparisons
returns-else-is_lt-clause-comparisons g c = record {
  at_least = omega arith;
  at_most = omega (arith, digits-half 0 (c.loop-low.high - c.loop-low.low) (omega arith) (omega arith));
}

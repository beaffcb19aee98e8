use Rattle.std.proofs.Common.{◌-◌, arith, rules, sym}
use Rattle.range_merge.proofs.Digits.{digits-le, digits-half}
use Rattle.range_merge.proofs.Gallops.{Less-from_test, not_less-from_test, IsHalved-after, IsHalved-before}
use Rattle.range_merge.proofs.runs.halved.Goals as goal

pub compare-how-requires : goal.compare-how-requires
compare-how-requires g c =
    omega (
      arith,
      digits-le (c.args.known.high - c.args.known.low),
      c.loop-low.invariant.fits,
      c.loop-low.invariant.at_most,
      digits-half 0 (c.loop-low.high - c.loop-low.low) (omega arith) (omega arith),
    )

pub loop-low-preserved-then-is_lt : goal.loop-low-preserved-then-is_lt
loop-low-preserved-then-is_lt g c =
    IsHalved-after g.C.Compare.order (g.L.Indexed.items c.args.side.now) c.args.key.now
    _ c.at.result.now c.at.ensures _ _ _ _ _ _ _ _
    (Less-from_test _ c.compare-how.result _ c.compare-how.ensures.answer c.is_lt.ensures (search rules))
    (omega arith) (omega arith) (omega arith) c.compare-how.ensures.counted c.loop-low.invariant

pub loop-low-preserved : goal.loop-low-preserved
loop-low-preserved g c =
    IsHalved-before g.C.Compare.order (g.L.Indexed.items c.args.side.now) c.args.key.now
    _ c.at.result.now c.at.ensures _ _ _ _ _ _ _ _ c.compare-how.result (sym c.compare-how.ensures.answer)
    (not_less-from_test _ c.compare-how.result _ c.compare-how.ensures.answer c.is_lt.ensures (search rules))
    (omega arith) (omega arith) (omega arith) c.compare-how.ensures.counted c.loop-low.invariant

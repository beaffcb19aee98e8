use Rattle.std.proofs.Common.{◌-◌, arith}
use Rattle.range_merge.proofs.Digits.{digits-le, digits-mono, digits-half}
use Rattle.range_merge.proofs.runs.gallop.Goals as goal

pub returns-then-not-is_lt-clause-comparisons : goal.returns-then-not-is_lt-clause-comparisons
returns-then-not-is_lt-clause-comparisons g c = record {
  at_least = omega (arith, c.compare-second.ensures.counted);
  at_most = omega (arith, c.compare-second.ensures.counted, digits-half 0 1 (omega arith) (omega arith));
}

pub halved-requires-clause-made : goal.halved-requires-clause-made
halved-requires-clause-made g c =
    omega (
      arith,
      c.compare-second.ensures.counted,
      digits-le (c.doubled-known.result.low - 1),
      digits-le c.doubled-known.result.low,
      c.doubled-known.ensures.bracket.ordered,
      c.doubled-known.ensures.bracket.within,
      c.doubled-known.ensures.comparisons.at_most,
    )

pub returns-clause-comparisons : goal.returns-clause-comparisons
returns-clause-comparisons g c =
    let more = digits-mono c.doubled-known.result.low c.halved.result.len c.halved.ensures.onward in
    record {
      at_least = omega (arith, c.compare-second.ensures.counted, c.doubled-known.ensures.comparisons.at_least, c.halved.ensures.comparisons.at_least);
      at_most =
          omega (
            arith,
            more,
            c.compare-second.ensures.counted,
            c.doubled-known.ensures.narrow,
            c.doubled-known.ensures.comparisons.at_most,
            c.halved.ensures.comparisons.at_most,
          );
    }

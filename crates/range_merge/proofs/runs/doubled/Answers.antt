use Rattle.std.proofs.Common.{◌-◌, arith, rules, refl, sym}
use Rattle.range_merge.proofs.Digits.{digits-le, digits-mono}
use Rattle.range_merge.proofs.Gallops.{Less-from_test, not_less-from_test, IsBracket-before, StandsAt-read, IsDoubled-start, IsDoubled-more}
use Rattle.range_merge.proofs.runs.doubled.Goals as goal

pub loop-low-init : goal.loop-low-init
loop-low-init g c =
    IsDoubled-start g.C.Compare.order (g.L.Indexed.items c.args.side.now) c.args.key.now
    c.len-len.result _ c.requires.some c.requires.second c.len-len.ensures (omega arith)

pub compare-how-requires : goal.compare-how-requires
compare-how-requires g c =
    omega (arith, digits-le c.loop-low.low, c.loop-low.invariant.bracket.ordered, c.loop-low.invariant.at_most)

pub returns-then-not-is_lt-clause-bracket : goal.returns-then-not-is_lt-clause-bracket
returns-then-not-is_lt-clause-bracket g c =
    IsBracket-before g.C.Compare.order (g.L.Indexed.items c.args.side.now) c.args.key.now
    _ c.at.result.now c.at.ensures _ c.len-len.result
    (not_less-from_test _ c.compare-how.result _ c.compare-how.ensures.answer c.is_lt.ensures (search rules))
    (omega (arith, c.loop-low.invariant.bracket.some)) (omega arith) c.loop-low.invariant.bracket

pub returns-then-not-is_lt-clause-next : goal.returns-then-not-is_lt-clause-next
returns-then-not-is_lt-clause-next g c =
    StandsAt-read g.C.Compare.order (g.L.Indexed.items c.args.side.now) c.args.key.now
    _ c.at.result.now c.at.ensures c.compare-how.result (sym c.compare-how.ensures.answer) (omega (arith, c.loop-low.invariant.is_len))

pub loop-low-preserved : goal.loop-low-preserved
loop-low-preserved g c =
    IsDoubled-more g.C.Compare.order (g.L.Indexed.items c.args.side.now) c.args.key.now
    _ c.at.result.now c.at.ensures c.loop-low.low _ _ _ _ _
    (Less-from_test _ c.compare-how.result _ c.compare-how.ensures.answer c.is_lt.ensures (search rules))
    refl (omega arith) (omega arith) c.compare-how.ensures.counted c.loop-low.invariant

pub returns-clause-narrow : goal.returns-clause-narrow
returns-clause-narrow g c =
    omega (arith, c.loop-low.invariant.narrow, digits-mono (c.len-len.result - c.loop-low.low) (c.loop-low.low - 1) (omega arith))

pub returns-clause-next : goal.returns-clause-next
returns-clause-next g c = c.loop-low.invariant.is_len

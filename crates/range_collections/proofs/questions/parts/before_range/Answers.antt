use Rattle.std.proofs.Common.{arith}
use Rattle.range_collections.proofs.Points.{even-from_test}
use Rattle.range_collections.proofs.Ranked.{odd-parity}
use Rattle.range_collections.proofs.questions.parts.before_range.Goals as goal

pub returns-then-is_odd-clause-before : goal.returns-then-is_odd-clause-before
returns-then-is_odd-clause-before g c =
    omega (arith, c.position_before.ensures.before, odd-parity c.is_odd.result (g.L.Boundaries.index c.args.list c.args.at) c.is_odd.ensures c.if-is_odd.true)

pub returns-else-is_odd-clause-before : goal.returns-else-is_odd-clause-before
returns-else-is_odd-clause-before g c =
    omega (arith, even-from_test c.is_odd.result (g.L.Boundaries.index c.args.list c.args.at) c.is_odd.ensures c.if-is_odd.false)

use Rattle.range_c.proofs.Joined.{IsJoined}
use Rattle.range_c.proofs.ranges.join.Given as goal

abbrev pub invariant-loop-i : goal.invariant-loop-i
invariant-loop-i g l = IsJoined g.E.Number.Ord.cmp g.E.Ends.first g.E.Ends.last l.initial.ranges l.i l.ranges l.kept

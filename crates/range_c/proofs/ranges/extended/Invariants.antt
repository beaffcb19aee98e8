use Rattle.range_c.proofs.Opened.{IsExtended}
use Rattle.range_c.proofs.ranges.extended.Given as goal

abbrev pub invariant-loop-kept : goal.invariant-loop-kept
invariant-loop-kept g l = IsExtended g.E.Number.Ord.cmp g.E.Ends.first g.E.Ends.last l.ranges l.fn.from l.kept l.start

abbrev pub decreases-loop-kept : goal.decreases-loop-kept
decreases-loop-kept g l = l.kept

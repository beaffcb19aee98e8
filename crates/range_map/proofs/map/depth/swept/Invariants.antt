use Rattle.std.proofs.Common.{◌+◌, ◌-◌, length}
use Rattle.range_map.specs.Listed.{steps_of}
use Rattle.range_map.proofs.Depths.{IsSweptTo}
use Rattle.range_map.proofs.map.depth.swept.Given as goal

abbrev pub invariant-loop-j : goal.invariant-loop-j
invariant-loop-j g l = IsSweptTo g.K.Ord.cmp l.starts l.ends l.i l.j (steps_of l.list.items)

abbrev pub decreases-loop-j : goal.decreases-loop-j
decreases-loop-j g l = (length l.starts - l.i) + (length l.ends - l.j)

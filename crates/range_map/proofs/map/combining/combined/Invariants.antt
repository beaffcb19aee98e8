use Rattle.std.proofs.Common.{◌+◌, ◌-◌, ◌*◌, ◌≤◌, length, drop}
use Rattle.range_merge.specs.Runs.{weight}
use Rattle.range_map.specs.Combining.{IsMadeUpTo}
use Rattle.range_map.specs.Listed.{steps_of}
use Rattle.range_map.proofs.map.combining.combined.Given as goal

abbrev pub invariant-loop-i : goal.invariant-loop-i
invariant-loop-i g l = record {
  left_within : l.i ≤ length l.a.keys;
  right_within : l.j ≤ length l.b.keys;
  at_least : l.fn.count ≤ l.count;
  paid : l.count + 2 * weight g.K.Ord.cmp (drop l.i l.a.keys) (drop l.j l.b.keys) ≤
      l.fn.count + 2 * weight g.K.Ord.cmp l.a.keys l.b.keys;
  made : IsMadeUpTo g.K.Ord.cmp g.O.Output.PartialEq.eq (g.O.MapOperation.gives l.op) l.a l.b l.i l.j (steps_of l.list.items);
}

abbrev pub decreases-loop-i : goal.decreases-loop-i
decreases-loop-i g l = (length l.a.keys - l.i) + (length l.b.keys - l.j)

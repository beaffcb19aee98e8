use Rattle.std.proofs.Common.{◌≡◌, ◌+◌, length, take}
use Rattle.range_merge.specs.Boundaries.{count_up_to}
use Rattle.range_map.specs.Depth.{depth_at}
use Rattle.range_map.proofs.map.depth.ends_of.Given as goal

abbrev pub invariant-loop-i : goal.invariant-loop-i
invariant-loop-i g l = record {
  depths : (x : g.row.K.Denot) → depth_at g.K.Ord.cmp (take l.i l.ranges) x + count_up_to g.K.Ord.cmp l.made.ends.items x ≡ count_up_to g.K.Ord.cmp l.made.starts.items x;
  as_many : length l.made.starts.items ≡ length l.made.ends.items;
}

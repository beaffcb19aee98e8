use Rattle.std.proofs.Common.{◌≡◌, ◌≤◌, ◌<◌, ◌-◌, ◌++◌, get_or, take, drop}
use Rattle.std.specs.List.{dedup, dedup_from}
use Rattle.range_c.proofs.unsorted.keep_distinct.Given as goal

abbrev pub invariant-loop-i : goal.invariant-loop-i
invariant-loop-i g l = record {
  some_kept : 0 < l.kept;
  in_front : l.kept ≤ l.i;
  so_far : (d : _) → take (l.kept - 1) l.items ++ dedup_from g.T.PartialEq.eq (get_or l.items (l.kept - 1) d) (drop l.i l.items) ≡ dedup g.T.PartialEq.eq l.initial.items;
}

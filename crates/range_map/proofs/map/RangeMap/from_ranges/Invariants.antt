use Rattle.std.proofs.Common.{◌≡◌, ◌≤◌, None, length}
use Rattle.std.specs.Vec.Iter.{into_iter_items, into_iter_len}
use Rattle.range_map.specs.Steps.{AreAlike, value_at}
use Rattle.range_map.specs.Pairs.{last_at}
use Rattle.range_map.proofs.map.RangeMap.from_ranges.Given as goal

abbrev pub invariant-loop-range : goal.invariant-loop-range
invariant-loop-range g l = record {
  few : length (into_iter_items l.range-iterator) ≤ length l.fn.ranges.items;
  len : into_iter_len l.range-iterator ≡ length (into_iter_items l.range-iterator);
  values : (x : g.row.K.Denot) →
      AreAlike g.V.PartialEq.eq (last_at g.K.Ord.cmp (into_iter_items l.range-iterator) (value_at g.K.Ord.cmp l.map x) x)
      (last_at g.K.Ord.cmp l.fn.ranges.items None x);
}

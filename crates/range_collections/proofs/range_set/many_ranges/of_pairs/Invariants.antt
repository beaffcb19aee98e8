use Rattle.std.proofs.Common.{◌≡◌, Ok, List, length, ◌++◌}
use Rattle.std.specs.Vec.Iter.{into_iter_items, into_iter_len}
use Rattle.range_collections.specs.ManyRanges.{GivesOwn, pairs_of}
use Rattle.range_collections.specs.declared.range_set_range.RangeSetRange.{RangeSetRange}
use Rattle.range_collections.proofs.range_set.many_ranges.of_pairs.Given as goal

abbrev pub invariant-loop-start : goal.invariant-loop-start
invariant-loop-start g l = record {
  len : into_iter_len l.start-iterator ≡ length (into_iter_items l.start-iterator);
  left : into_iter_len l.left ≡ length (into_iter_items l.left);
  done : List (RangeSetRange g.row.T.Denot);
  are : pairs_of l.fn.starts.items l.fn.ends.items ≡ done ++ pairs_of (into_iter_items l.start-iterator) (into_iter_items l.left);
  union : GivesOwn g.T.Ord.cmp g.row.N done (Ok l.set);
}

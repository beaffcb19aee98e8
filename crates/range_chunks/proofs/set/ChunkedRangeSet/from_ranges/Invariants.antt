use Rattle.std.proofs.Common.{Ok, take}
use Rattle.range_collections.specs.Ranges.{range_boundaries}
use Rattle.range_collections.specs.Unions.{GivesUnion}
use Rattle.range_chunks.proofs.set.ChunkedRangeSet.from_ranges.Given as goal

abbrev pub invariant-loop-i : goal.invariant-loop-i
invariant-loop-i g l =
    GivesUnion g.T.Ord.cmp g.T.EntryClone.is_copy g.T.EntryClone.is_infallible (range_boundaries g.T.Ord.cmp) 0 (take l.i l.ranges) (Ok l.set)

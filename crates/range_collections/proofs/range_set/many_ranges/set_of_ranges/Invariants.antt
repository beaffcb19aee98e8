use Rattle.std.proofs.Common.{take}
use Rattle.range_collections.specs.ManyRanges.{IsUnderwayByCopies}
use Rattle.range_collections.proofs.range_set.many_ranges.set_of_ranges.Given as goal

abbrev pub invariant-loop-i : goal.invariant-loop-i
invariant-loop-i g l =
    IsUnderwayByCopies g.T.Ord.cmp g.T.EntryClone.is_copy g.row.N (take l.i l.ranges) l.set l.aside.starts.items l.aside.ends.items

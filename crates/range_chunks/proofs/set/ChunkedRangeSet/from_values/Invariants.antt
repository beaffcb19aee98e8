use Rattle.std.proofs.Common.{◌≡◌, take}
use Rattle.std.specs.List.{list_any}
use Rattle.std.specs.Ordering.{is_eq}
use Rattle.range_merge.specs.Boundaries.{member}
use Rattle.range_chunks.proofs.set.ChunkedRangeSet.from_values.Given as goal

abbrev pub invariant-loop-value : goal.invariant-loop-value
invariant-loop-value g l =
    (x : _) → g.T.RangeSetEntry.is_value x → member g.T.Ord.cmp l.set x ≡ list_any (λ value. is_eq (g.T.Ord.cmp value x)) (take l.value-index l.values)

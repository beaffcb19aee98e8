use Rattle.std.proofs.Common.{◌≡◌, ◌↔◌, take}
use Rattle.std.specs.List.{Any}
use Rattle.std.specs.declared.cmp.Ordering.TheVariants.{Equal}
use Rattle.range_collections.specs.Ranges.{IsInRange}
use Rattle.range_collections.proofs.range_set.RangeSet.from_values.Given as goal

abbrev pub invariant-loop-value : goal.invariant-loop-value
invariant-loop-value g l =
    (x : _) → g.T.RangeSetEntry.is_value x →
    Any (λ range. IsInRange g.T.Ord.cmp range x) l.ranges.items ↔ Any (λ value. g.T.Ord.cmp value x ≡ Equal) (take l.value-index l.values)

use Rattle.std.proofs.Common.{subst}
use Rattle.range_merge.specs.Boundaries.{IsAscending}
use Rattle.range_collections.proofs.Ascending.{IsAscending-rest}
use Rattle.range_collections.proofs.changes.taking.take_first_range.Goals as goal

pub returns-in_default-Some-clause-sorted : goal.returns-in_default-Some-clause-sorted
returns-in_default-Some-clause-sorted g c =
    IsAscending-rest g.T.Ord.cmp c.in_ok-start.field-0.0 c.in_ok-start.field-0.1 (g.L.Splice.items c.take_first_two.new.self)
    (subst (IsAscending g.T.Ord.cmp) c.in_ok-start.ensures.items c.requires)

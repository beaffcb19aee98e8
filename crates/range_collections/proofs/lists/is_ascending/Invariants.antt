use Rattle.std.proofs.Common.{◌↔◌, length}
use Rattle.range_merge.specs.Boundaries.{IsAscending}
use Rattle.range_collections.proofs.lists.is_ascending.Given as goal

abbrev pub invariant-loop-rest : goal.invariant-loop-rest
invariant-loop-rest g l = IsAscending g.T.Ord.cmp l.rest ↔ IsAscending g.T.Ord.cmp l.items

abbrev pub decreases-loop-rest : goal.decreases-loop-rest
decreases-loop-rest g l = length l.rest

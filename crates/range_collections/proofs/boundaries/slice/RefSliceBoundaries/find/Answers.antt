use Rattle.std.proofs.Common.{arith, length}
use Rattle.range_merge.proofs.Digits.{digits-le}
use Rattle.range_collections.proofs.Changing.{finds}
use Rattle.range_collections.proofs.boundaries.slice.RefSliceBoundaries.find.Goals as goal

pub returns-clause-found : goal.returns-clause-found
returns-clause-found g c =
    finds g.T.Ord.cmp c.args.self.now.now c.args.value.now (λ i. i) c.search.result
    c.search.ensures.found_within c.search.ensures.found c.search.ensures.missing_within c.search.ensures.missing_before c.search.ensures.missing_from

pub returns-clause-cheap : goal.returns-clause-cheap
returns-clause-cheap g c = omega (arith, digits-le (length c.args.self.now.now))

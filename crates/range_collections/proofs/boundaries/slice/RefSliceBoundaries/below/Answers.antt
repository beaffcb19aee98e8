use Rattle.std.proofs.Common.{◌≡◌, true, ap, arith, length}
use Rattle.std.specs.Ordering.{is_le}
use Rattle.std.proofs.lemmas.Cmp.{tied_back}
use Rattle.range_merge.proofs.Digits.{digits-le}
use Rattle.range_collections.proofs.Cut.{before_found, from_found}
use Rattle.range_collections.proofs.Shortest.{le-from_greater}
use Rattle.range_collections.proofs.boundaries.slice.RefSliceBoundaries.below.Goals as goal

pub returns-in-Ok-clause-before : goal.returns-in-Ok-clause-before
returns-in-Ok-clause-before g c =
    before_found g.met.T.Ord.total c.args.value.now c.args.self.now.now c.in-Ok.i
    c.requires.sorted c.in-Ok.ensures.found_within c.in-Ok.ensures.found

pub returns-in-Ok-clause-from : goal.returns-in-Ok-clause-from
returns-in-Ok-clause-from g c =
    from_found g.met.T.Ord.total c.args.value.now c.args.self.now.now c.in-Ok.i
    c.requires.sorted c.in-Ok.ensures.found_within c.in-Ok.ensures.found
    (λ y. is_le (g.T.Ord.cmp c.args.value.now y) ≡ true)
    (λ y e. ap is_le (tied_back g.met.T.Ord.total y c.args.value.now e)) (λ y e. le-from_greater g.met.T.Ord.total y c.args.value.now e)

pub returns-in-Ok-clause-cheap : goal.returns-in-Ok-clause-cheap
returns-in-Ok-clause-cheap g c = omega (arith, digits-le (length c.args.self.now.now))

pub returns-in-Err-clause-cheap : goal.returns-in-Err-clause-cheap
returns-in-Err-clause-cheap g c = omega (arith, digits-le (length c.args.self.now.now))

use Rattle.std.proofs.Common.{arith}
use Rattle.range_collections.specs.Split.{split_left, split_right}
use Rattle.range_collections.proofs.Cut.{IsLeastBelow-split_left, IsLeastFrom-split_right}
use Rattle.range_collections.proofs.laws.parts.parts_are_the_shortest.Goals as goal

pub returns-clause-left : goal.returns-clause-left
returns-clause-left g c = λ items other cut up sorted agrees.
    (IsLeastBelow-split_left g.met.T.Ord.total cut items up).least other sorted agrees

pub returns-clause-right : goal.returns-clause-right
returns-clause-right g c = λ items other cut up sorted agrees.
    (IsLeastFrom-split_right g.met.T.Ord.total cut items up).least other sorted agrees

pub returns-clause-least_below : goal.returns-clause-least_below
returns-clause-least_below g c = λ items part cut up h.
    let s = IsLeastBelow-split_left g.met.T.Ord.total cut items up in
    omega (arith, h.least (split_left g.T.Ord.cmp items cut) s.sorted s.agrees, s.least part h.sorted h.agrees)

pub returns-clause-least_from : goal.returns-clause-least_from
returns-clause-least_from g c = λ items part cut up h.
    let s = IsLeastFrom-split_right g.met.T.Ord.total cut items up in
    omega (arith, h.least (split_right g.T.Ord.cmp items cut) s.sorted s.agrees, s.least part h.sorted h.agrees)

use Rattle.std.proofs.Common.{refl}
use Rattle.range_collections.proofs.Sets.{IsTrue-pointwise}
use Rattle.range_collections.proofs.view.equality.RangeSetRefPartialEq.eq.Goals as goal

pub returns-clause-value : goal.returns-clause-value
returns-clause-value g c = c.eq.ensures

pub returns-clause-members : goal.returns-clause-members
returns-clause-members g c =
    IsTrue-pointwise g.met.T.Ord.total g.met.T.Ord.matches_eq c.args.self.now.boundaries.now c.args.other.now.boundaries.now
    c.args.self.now.boundaries.now c.args.other.now.boundaries.now c.eq.result
    refl refl c.args.self.now.sorted c.args.other.now.sorted c.eq.ensures

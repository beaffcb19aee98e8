use Rattle.range_collections.proofs.Sets.{IsTrue-pointwise}
use Rattle.range_collections.proofs.range_set.RangeSetPartialEq.eq.Goals as goal

pub returns-clause-members : goal.returns-clause-members
returns-clause-members g c =
    IsTrue-pointwise g.met.T.Ord.total g.met.T.Ord.matches_eq c.args.self.now c.args.other.now
    c.boundaries.result.now c.boundaries-2.result.now c.eq.result
    c.boundaries.ensures.same c.boundaries-2.ensures.same
    c.boundaries.ensures.sorted c.boundaries-2.ensures.sorted c.eq.ensures

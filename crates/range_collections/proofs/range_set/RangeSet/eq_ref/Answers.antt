use Rattle.std.proofs.Common.{ap}
use Rattle.range_collections.proofs.Sets.{IsTrue-pointwise}
use Rattle.range_collections.proofs.range_set.RangeSet.eq_ref.Goals as goal

pub returns : goal.returns
returns g c =
    IsTrue-pointwise g.met.T.Ord.total g.met.T.Ord.matches_eq c.args.self.now c.args.that.boundaries.now
    c.boundaries.result.now c.boundaries-2.result.now c.eq.result
    c.boundaries.ensures.same (ap (λ borrowed. borrowed.now) c.boundaries-2.ensures.same)
    c.boundaries.ensures.sorted c.boundaries-2.ensures.sorted c.eq.ensures

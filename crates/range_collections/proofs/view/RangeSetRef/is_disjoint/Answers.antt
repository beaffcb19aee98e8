use Rattle.range_collections.proofs.Sets.{IsTrue-not_intersecting}
use Rattle.range_collections.proofs.view.RangeSetRef.is_disjoint.Goals as goal

pub returns : goal.returns
returns g c =
    IsTrue-not_intersecting g.met.T.Ord.total c.args.self.now.boundaries.now c.args.that.boundaries.now c.merge_test.result c.merge_test.ensures.members

use Rattle.range_collections.proofs.Sets.{IsTrue-intersecting}
use Rattle.range_collections.proofs.view.RangeSetRef.intersects.Goals as goal

pub returns : goal.returns
returns g c =
    IsTrue-intersecting g.met.T.Ord.total c.args.self.now.boundaries.now c.args.that.boundaries.now c.merge_test.result c.merge_test.ensures.members

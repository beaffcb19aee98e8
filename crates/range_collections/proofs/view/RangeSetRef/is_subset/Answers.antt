use Rattle.range_collections.proofs.Sets.{IsTrue-nothing_left}
use Rattle.range_collections.proofs.view.RangeSetRef.is_subset.Goals as goal

pub returns : goal.returns
returns g c =
    IsTrue-nothing_left g.met.T.Ord.total c.args.self.now.boundaries.now c.args.that.boundaries.now c.merge_test.result c.merge_test.ensures.members

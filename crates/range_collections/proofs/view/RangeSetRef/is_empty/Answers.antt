use Rattle.range_collections.proofs.CountUpTo.{IsTrue-no_members}
use Rattle.range_collections.proofs.view.RangeSetRef.is_empty.Goals as goal

pub returns : goal.returns
returns g c =
    IsTrue-no_members g.T.Ord.cmp g.met.T.Ord.total c.args.self.now.boundaries.now c.is_empty.result
    c.args.self.now.sorted c.is_empty.ensures

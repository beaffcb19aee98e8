use Rattle.range_collections.proofs.CountUpTo.{IsTrue-no_members}
use Rattle.range_list.specs.Lists.{joined}
use Rattle.range_collections.proofs.Searched.{is_nil-tested}
use Rattle.range_chunks.proofs.set.ChunkedRangeSet.is_empty.Goals as goal

pub returns : goal.returns
returns g c =
    let all = joined c.self.inside.list in
    rw (← c.self.view_is)
    (IsTrue-no_members g.T.Ord.cmp g.met.T.Ord.total all c.is_empty.result c.self.invariant (is_nil-tested c.is_empty.result all c.is_empty.ensures.none c.is_empty.ensures.some))

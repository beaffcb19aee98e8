use Rattle.range_collections.proofs.Sets.{IsTrue-pointwise}
use Rattle.range_list.specs.Lists.{joined}
use Rattle.range_chunks.proofs.set.making.ChunkedRangeSetPartialEq.eq.Goals as goal

pub returns-clause-members : goal.returns-clause-members
returns-clause-members g c =
    IsTrue-pointwise g.met.T.Ord.total g.met.T.Ord.matches_eq c.args.self.now c.args.other.now
    (joined c.self.inside.list) (joined c.other.inside.list) c.are_equal.result
    c.self.view_is c.other.view_is c.self.invariant c.other.invariant c.are_equal.ensures

use Rattle.range_collections.specs.Headline.{IsItselfOr}
use Rattle.range_list.specs.Lists.{joined}
use Rattle.range_chunks.proofs.Windowed.{ascending-after}
use Rattle.range_chunks.proofs.set.ChunkedRangeSet.merge_with.Goals as goal

pub invariant_of-self : goal.invariant_of-self
invariant_of-self g c =
    ascending-after g.met.T.Ord.total g.T.EntryClone.is_copy (IsItselfOr g.T.EntryClone.is_copy) (g.O.MergeOperation.connective c.args.op.now) (joined c.self.inside.list) _ (joined c.merge_into.new.list) c.merge_into.result
    c.merge_into.ensures.result c.merge_into.ensures.unchanged c.self.invariant

pub returns-clause-result : goal.returns-clause-result
returns-clause-result g c = rw (← c.self.view_is, ← c.boundaries.ensures.same) c.merge_into.ensures.result

pub returns-clause-unchanged : goal.returns-clause-unchanged
returns-clause-unchanged g c = rw (← c.self.view_is) c.merge_into.ensures.unchanged

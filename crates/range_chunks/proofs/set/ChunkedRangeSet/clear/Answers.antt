use Rattle.range_merge.proofs.Members.{member-nil}
use Rattle.range_collections.proofs.Ascending.{IsAscending-nil}
use Rattle.range_chunks.proofs.set.ChunkedRangeSet.clear.Goals as goal

pub invariant_of-self : goal.invariant_of-self
invariant_of-self g c = rw c.clear.ensures (IsAscending-nil g.T.Ord.cmp)

pub returns-clause-members : goal.returns-clause-members
returns-clause-members g c = λ x. rw c.clear.ensures (member-nil g.T.Ord.cmp x)

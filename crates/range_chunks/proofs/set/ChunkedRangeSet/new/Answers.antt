use Rattle.range_merge.proofs.Members.{member-nil}
use Rattle.range_collections.proofs.Ascending.{IsAscending-nil}
use Rattle.range_chunks.proofs.set.ChunkedRangeSet.new.Goals as goal

pub invariant_of-result : goal.invariant_of-result
invariant_of-result g c = rw c.new.ensures (IsAscending-nil g.T.Ord.cmp)

pub returns-clause-members : goal.returns-clause-members
returns-clause-members g c = λ x. rw c.new.ensures (member-nil g.T.Ord.cmp x)

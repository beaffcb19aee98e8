use Rattle.range_merge.proofs.Members.{member-nil}
use Rattle.range_collections.proofs.range_set.RangeSet.empty.Goals as goal

pub returns : goal.returns
returns g c = record { boundaries = c.new.ensures.items; members = λ x. rw c.new.ensures.items (member-nil g.T.Ord.cmp x) }

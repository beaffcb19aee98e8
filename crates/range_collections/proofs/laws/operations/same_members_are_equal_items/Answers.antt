use Rattle.range_merge.proofs.SameSet.{same_items, IsSameSet-from_items}
use Rattle.range_collections.proofs.laws.operations.same_members_are_equal_items.Goals as goal

pub returns : goal.returns
returns g c = λ a b p q. (same_items g.met.T.Ord.total a b p q, IsSameSet-from_items g.met.T.Ord.total a b)

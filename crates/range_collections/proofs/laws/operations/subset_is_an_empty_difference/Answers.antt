use Rattle.range_collections.proofs.Sets.{IsSubset-nil}
use Rattle.range_collections.proofs.laws.operations.subset_is_an_empty_difference.Goals as goal

pub returns : goal.returns
returns g c = IsSubset-nil g.met.T.Ord.total

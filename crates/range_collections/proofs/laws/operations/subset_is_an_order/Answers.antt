use Rattle.range_collections.proofs.Sets.{AreEqual-from_subsets}
use Rattle.range_collections.proofs.laws.operations.subset_is_an_order.Goals as goal

pub returns-clause-antisymmetric : goal.returns-clause-antisymmetric
returns-clause-antisymmetric g c = AreEqual-from_subsets g.met.T.Ord.total

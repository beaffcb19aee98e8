use Rattle.range_collections.proofs.Sets.{AreEqual-same_results}
use Rattle.range_collections.proofs.laws.operations.results_are_pinned.Goals as goal

pub returns : goal.returns
returns g c = AreEqual-same_results g.met.T.Ord.total

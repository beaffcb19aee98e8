use Rattle.range_collections.proofs.Sets.{IsDisjoint-nil}
use Rattle.range_collections.proofs.laws.operations.disjoint_is_an_empty_intersection.Goals as goal

pub returns : goal.returns
returns g c = IsDisjoint-nil g.met.T.Ord.total

use Rattle.range_collections.proofs.PartsLaws.{HasAllWithin-nil}
use Rattle.range_collections.proofs.laws.parts.a_range_is_contained_where_nothing_is_left.Goals as goal

pub returns : goal.returns
returns g c = HasAllWithin-nil g.met.T.Ord.total

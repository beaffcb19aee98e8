use Rattle.range_map.proofs.Setlike.{member-is_some}
use Rattle.range_map.proofs.laws.a_map_to_one_value_is_a_set.Goals as goal

pub returns : goal.returns
returns g c m all canonical x = member-is_some g.K.Ord.cmp g.met.K.Ord.total g.V.PartialEq.eq all m canonical x

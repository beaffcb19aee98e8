use Rattle.range_collections.proofs.Values.{AreEqual-twice}
use Rattle.range_collections.proofs.laws.values.negating_twice_gives_the_same.Goals as goal

pub returns : goal.returns
returns g c = AreEqual-twice g.met.T.Ord.total g.T.RangeSetEntry.is_value

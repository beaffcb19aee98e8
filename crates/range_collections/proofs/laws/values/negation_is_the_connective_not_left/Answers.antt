use Rattle.range_collections.proofs.Combined.{Negates-not_left}
use Rattle.range_collections.proofs.laws.values.negation_is_the_connective_not_left.Goals as goal

pub returns : goal.returns
returns g c = Negates-not_left g.met.T.Ord.total g.T.RangeSetEntry.is_value

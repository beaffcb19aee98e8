use Rattle.range_collections.proofs.Combined.{IsEverything-union}
use Rattle.range_collections.proofs.laws.values.a_set_and_what_is_not_in_it_are_everything.Goals as goal

pub returns : goal.returns
returns g c = IsEverything-union g.met.T.Ord.total g.T.RangeSetEntry.is_value

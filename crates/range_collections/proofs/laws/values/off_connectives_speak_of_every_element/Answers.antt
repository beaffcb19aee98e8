use Rattle.range_collections.proofs.Combined.{Means-of_off}
use Rattle.range_collections.proofs.laws.values.off_connectives_speak_of_every_element.Goals as goal

pub returns : goal.returns
returns g c = Means-of_off g.met.T.Ord.total g.T.RangeSetEntry.is_value

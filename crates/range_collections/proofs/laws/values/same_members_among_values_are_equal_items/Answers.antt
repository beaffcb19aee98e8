use Rattle.range_collections.proofs.Values.{same_values}
use Rattle.range_collections.proofs.laws.values.same_members_among_values_are_equal_items.Goals as goal

pub returns : goal.returns
returns g c = same_values g.met.T.Ord.total g.T.RangeSetEntry.is_value

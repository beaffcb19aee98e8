use Rattle.range_collections.proofs.Previous.{IsPrevious-pinned}
use Rattle.range_collections.proofs.laws.members.the_previous_value_is_pinned.Goals as goal

pub returns : goal.returns
returns g c = record { pinned = IsPrevious-pinned g.met.T.Ord.total g.T.RangeSetEntry.is_value }

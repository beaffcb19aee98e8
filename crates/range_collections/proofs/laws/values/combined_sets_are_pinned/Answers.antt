use Rattle.range_collections.proofs.Combined.{AreEqual-combined}
use Rattle.range_collections.proofs.laws.values.combined_sets_are_pinned.Goals as goal

pub returns : goal.returns
returns g c = AreEqual-combined g.met.T.Ord.total g.T.RangeSetEntry.is_value

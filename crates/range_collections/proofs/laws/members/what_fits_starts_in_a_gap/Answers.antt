use Rattle.range_collections.proofs.FirstGap.{found-in_gap}
use Rattle.range_collections.proofs.laws.members.what_fits_starts_in_a_gap.Goals as goal

pub returns : goal.returns
returns g c items start end x count fit = found-in_gap g.met.T.Ord.total g.T.Countable.place items start end x count fit

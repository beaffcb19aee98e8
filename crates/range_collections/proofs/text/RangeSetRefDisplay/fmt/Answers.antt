use Rattle.range_collections.proofs.Texts.{AreTexts-all}
use Rattle.range_collections.proofs.text.RangeSetRefDisplay.fmt.Goals as goal

pub returns-clause-writes : goal.returns-clause-writes
returns-clause-writes g c = (c.write_ranges.ensures g.T.WholeNumber.digits (AreTexts-all _ _ g.met.T.WholeNumber.prints _))

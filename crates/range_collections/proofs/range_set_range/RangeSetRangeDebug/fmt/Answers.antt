use Rattle.range_collections.proofs.Texts.{IsText-range}
use Rattle.range_collections.proofs.range_set_range.RangeSetRangeDebug.fmt.Goals as goal

pub returns : goal.returns
returns g c = record {
  writes = rw (← c.as_ref.ensures) (c.write_range.ensures g.T.WholeNumber.digits (IsText-range _ _ g.met.T.WholeNumber.prints _));
}

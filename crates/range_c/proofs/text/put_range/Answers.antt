use Rattle.range_c.proofs.Put.{PutsText-append}
use Rattle.range_c.proofs.text.put_range.Goals as goal

pub returns-in-Range : goal.returns-in-Range
returns-in-Range g c =
    rw c.in-Range.is (PutsText-append _ _ _ _ _ _ _ _ c.put_number-len.ensures (PutsText-append _ _ _ _ _ _ _ _ c.put-len.ensures c.put_number.ensures))

pub returns-in-RangeFrom : goal.returns-in-RangeFrom
returns-in-RangeFrom g c =
    rw c.in-RangeFrom.is (PutsText-append _ _ _ _ _ _ _ _ c.put_number-len-in-RangeFrom.ensures c.put.ensures)

use Rattle.range_c.proofs.Put.{PutsText-append}
use Rattle.range_c.proofs.chunked.put_ends.Goals as goal

pub returns-in-Range : goal.returns-in-Range
returns-in-Range g c = rw c.in-Range.is (PutsText-append _ _ _ _ _ _ _ _ c.put_one-len.ensures c.put_one.ensures)

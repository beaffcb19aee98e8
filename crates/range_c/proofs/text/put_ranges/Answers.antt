use Rattle.range_c.proofs.Put.{PutsText-append}
use Rattle.range_c.proofs.text.put_ranges.Goals as goal

pub returns-in-Some : goal.returns-in-Some
returns-in-Some g c = rw c.in-Some.ensures.steps (PutsText-append _ _ _ _ _ _ _ _ c.put_range-len.ensures c.put_others.ensures)

use Rattle.std.proofs.Common.{refl}
use Rattle.range_chunks.proofs.within.copies_of.Goals as goal

pub loop-boundary-init : goal.loop-boundary-init
loop-boundary-init c = rw (c.new-list.ensures, ← c.parts.view_is) refl

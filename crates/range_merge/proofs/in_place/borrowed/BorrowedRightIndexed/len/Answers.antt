use Rattle.std.proofs.Common.{refl}
use Rattle.range_merge.proofs.in_place.borrowed.BorrowedRightIndexed.len.Goals as goal

pub returns : goal.returns
returns g c = rw (← c.self.view_is, c.as_slice.ensures) refl

use Rattle.std.proofs.Common.{refl}
use Rattle.range_merge.proofs.in_place.InPlaceStateMergeStateMut.ac.Goals as goal

pub returns : goal.returns
returns g c = rw (← c.self.view_is) refl

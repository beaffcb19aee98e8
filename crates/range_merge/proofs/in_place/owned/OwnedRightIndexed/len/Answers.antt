use Rattle.std.proofs.Common.{arith}
use Rattle.std.proofs.lemmas.List.{length-drop}
use Rattle.range_merge.proofs.in_place.owned.OwnedRightIndexed.len.Goals as goal

pub returns : goal.returns
returns g c = rw (← c.self.view_is, length-drop) (omega (arith, c.len.ensures))

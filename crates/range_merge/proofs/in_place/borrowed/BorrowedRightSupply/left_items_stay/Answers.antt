use Rattle.range_merge.proofs.OwnOrCopies.{AreOwnOrCopies-left}
use Rattle.range_merge.proofs.in_place.borrowed.BorrowedRightSupply.left_items_stay.Goals as goal

pub returns : goal.returns
returns g c = AreOwnOrCopies-left g.P.Copier.alike

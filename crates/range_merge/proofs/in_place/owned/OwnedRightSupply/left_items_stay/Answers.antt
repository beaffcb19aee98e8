use Rattle.range_merge.proofs.TakenInPlace.{taken_items-left}
use Rattle.range_merge.proofs.in_place.owned.OwnedRightSupply.left_items_stay.Goals as goal

pub returns : goal.returns
returns g c = taken_items-left

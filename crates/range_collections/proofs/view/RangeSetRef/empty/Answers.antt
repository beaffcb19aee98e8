use Rattle.std.proofs.Common.{refl}
use Rattle.range_merge.proofs.Members.{member-nil}
use Rattle.range_collections.proofs.view.RangeSetRef.empty.Goals as goal

pub returns : goal.returns
returns g c = record { boundaries = refl; members = member-nil g.T.Ord.cmp }

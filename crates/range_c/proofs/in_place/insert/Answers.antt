use Rattle.std.proofs.Common.{take}
use Rattle.range_collections.proofs.Insertion.{union-alike}
use Rattle.range_c.proofs.Room.{ChangesList-alike}
use Rattle.range_c.proofs.in_place.insert.Goals as goal

pub returns : goal.returns
returns g c = ChangesList-alike g.T.Ord.cmp _ _ union-alike (take c.args.len c.args.buffer.now) _ _ _ _ c.set_range.ensures

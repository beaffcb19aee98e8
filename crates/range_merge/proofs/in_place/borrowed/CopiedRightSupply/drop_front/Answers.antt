use Rattle.std.proofs.Common.{arith}
use Rattle.std.proofs.lemmas.Slice.Zip.{AllZip-long}
use Rattle.range_merge.proofs.OwnOrCopies.{AllZip-drop}
use Rattle.range_merge.proofs.in_place.borrowed.CopiedRightSupply.drop_front.Goals as goal

pub drop_front-requires : goal.drop_front-requires
drop_front-requires g c = rw (← c.self.view_is) at c.requires

pub drop_front-requires-2 : goal.drop_front-requires-2
drop_front-requires-2 g c =
    let within = rw (← c.self.view_is) at c.requires in
    omega (arith, AllZip-long g.P.Copier.alike c.self.inside.b c.self.inside.copies c.self.invariant, within)

pub invariant_of-self : goal.invariant_of-self
invariant_of-self g c =
    rw (c.drop_front.ensures, c.drop_front-2.ensures) (AllZip-drop g.P.Copier.alike c.args.n c.self.inside.b c.self.inside.copies c.self.invariant)

pub returns : goal.returns
returns g c = rw (← c.self.view_is) c.drop_front.ensures

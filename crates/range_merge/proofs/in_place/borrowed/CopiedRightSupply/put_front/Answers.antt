use Rattle.std.proofs.Common.{true, [], length, refl, sym, ◌∙◌, arith}
use Rattle.std.proofs.lemmas.Slice.Zip.{AllZip-long}
use Rattle.range_merge.proofs.CopiesLemmas.{taken_items-taken_right}
use Rattle.range_merge.proofs.OwnOrCopies.{AllZip-take, AllZip-drop, AreOwnOrCopies-put}
use Rattle.range_merge.proofs.in_place.borrowed.CopiedRightSupply.put_front.Goals as goal

pub drop_front-requires : goal.drop_front-requires
drop_front-requires g c = rw (← c.self.view_is) at c.requires

pub put_front-requires : goal.put_front-requires
put_front-requires g c =
    let within = rw (← c.self.view_is) at c.requires in
    omega (arith, AllZip-long g.P.Copier.alike c.self.inside.b c.self.inside.copies c.self.invariant, within)

pub invariant_of-self : goal.invariant_of-self
invariant_of-self g c =
    rw (c.drop_front.ensures, c.put_front.ensures.rest) (AllZip-drop g.P.Copier.alike (length c.args.slots.now) c.self.inside.b c.self.inside.copies c.self.invariant)

pub returns-clause-rest : goal.returns-clause-rest
returns-clause-rest g c = rw (← c.self.view_is) c.drop_front.ensures

pub returns-clause-put : goal.returns-clause-put
returns-clause-put g c =
    let alike = g.P.Copier.alike in
    let n = length c.args.slots.now in
    let zipped = AllZip-take alike n c.self.inside.b c.self.inside.copies c.self.invariant in
    let front = sym (taken_items-taken_right true n c.self.inside.copies) ∙ c.put_front.ensures.put [] [] refl in
    rw (← c.self.view_is) (λ ts kept. AreOwnOrCopies-put alike c.self.inside.b kept c.put_front.new.slots n ts (rw front at zipped))

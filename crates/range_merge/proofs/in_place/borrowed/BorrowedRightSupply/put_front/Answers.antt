use Rattle.std.proofs.Common.{length, sym, ◌∙◌}
use Rattle.std.proofs.lemmas.Slice.Zip.{AllZip-long}
use Rattle.range_merge.proofs.OwnOrCopies.{AreOwnOrCopies-put}
use Rattle.range_merge.proofs.Outputs.{length-front}
use Rattle.range_merge.proofs.in_place.borrowed.BorrowedRightSupply.put_front.Goals as goal

pub take_front-requires : goal.take_front-requires
take_front-requires g c = rw (← c.self.view_is) at c.requires

pub copy_each-requires : goal.copy_each-requires
copy_each-requires g c =
    let within = rw (← c.self.view_is) at c.requires in
    record {
      infallible = c.self.invariant;
      as_many = sym (length-front (length c.args.slots.now) c.self.inside.b c.take_front.result.now within c.take_front.ensures.front);
    }

pub returns-clause-rest : goal.returns-clause-rest
returns-clause-rest g c = rw (← c.self.view_is) c.take_front.ensures.rest

pub returns-clause-len : goal.returns-clause-len
returns-clause-len g c =
    let within = rw (← c.self.view_is) at c.requires in
    AllZip-long g.P.Copier.alike c.take_front.result.now c.copy_each.new.slots c.copy_each.ensures
    ∙ length-front (length c.args.slots.now) c.self.inside.b c.take_front.result.now within c.take_front.ensures.front

pub returns-clause-put : goal.returns-clause-put
returns-clause-put g c =
    let copies = rw c.take_front.ensures.front at c.copy_each.ensures in
    rw (← c.self.view_is) (λ ts kept. AreOwnOrCopies-put g.P.Copier.alike c.self.inside.b kept c.copy_each.new.slots (length c.args.slots.now) ts copies)

use Rattle.std.proofs.Common.{length, drop, arith}
use Rattle.std.proofs.lemmas.List.{length-drop}
use Rattle.range_merge.proofs.TakenInPlace.{taken_items-front}
use Rattle.range_merge.proofs.in_place.owned.OwnedRightSupply.put_front.Goals as goal

pub swap_with-requires : goal.swap_with-requires
swap_with-requires g c =
    let within = rw (← c.self.view_is, length-drop) at c.requires in
    omega (arith, within, c.self.invariant)

pub returns-clause-put : goal.returns-clause-put
returns-clause-put g c =
    let items = g.L.Indexed.items c.self.inside.list in
    rw (← c.self.view_is)
    (λ ts kept. taken_items-front (drop c.self.inside.start items) kept c.swap_with.new.others (length c.args.slots.now) ts c.swap_with.ensures.others)

use Rattle.std.proofs.Common.{rules, ◌≡◌, length, arith}
use Rattle.std.proofs.lemmas.List.{length-map}
use Rattle.range_list.specs.Chunks.{items_of}
use Rattle.range_list.proofs.InOrder.{place-within}
use Rattle.range_list.proofs.Listed.{joined-lists, place-lists, IsPlaceAt-from, lists-few}
use Rattle.range_list.proofs.list.Chunks.find.Goals as goal

pub find-requires-clause-ascending : goal.find-requires-clause-ascending
find-requires-clause-ascending g c = rw (← c.self.view_is, joined-lists c.self.inside.chunks) at c.requires.ascending

pub returns-in-Ok-clause-places : goal.returns-in-Ok-clause-places
returns-in-Ok-clause-places g c = rw (← c.self.view_is) (IsPlaceAt-from c.self.inside.chunks c.in-Ok.p c.in-Ok.ensures.places)

pub returns-in-Ok-clause-found_within : goal.returns-in-Ok-clause-found_within
returns-in-Ok-clause-found_within g c =
    rw (← c.self.view_is, joined-lists c.self.inside.chunks, place-lists c.self.inside.chunks c.in-Ok.p) c.in-Ok.ensures.found_within

pub returns-in-Ok-clause-found : goal.returns-in-Ok-clause-found
returns-in-Ok-clause-found g c =
    rw (← c.self.view_is, joined-lists c.self.inside.chunks, place-lists c.self.inside.chunks c.in-Ok.p) c.in-Ok.ensures.found

pub returns-in-Err-clause-places : goal.returns-in-Err-clause-places
returns-in-Err-clause-places g c = rw (← c.self.view_is) (IsPlaceAt-from c.self.inside.chunks c.in-Err.p c.in-Err.ensures.places)

pub returns-in-Err-clause-missing_within : goal.returns-in-Err-clause-missing_within
returns-in-Err-clause-missing_within g c =
    rw (← c.self.view_is, joined-lists c.self.inside.chunks, place-lists c.self.inside.chunks c.in-Err.p)
    (place-within c.self.inside.chunks c.in-Err.p c.in-Err.ensures.places)

pub returns-in-Err-clause-missing_before : goal.returns-in-Err-clause-missing_before
returns-in-Err-clause-missing_before g c =
    rw (← c.self.view_is, joined-lists c.self.inside.chunks, place-lists c.self.inside.chunks c.in-Err.p) c.in-Err.ensures.missing_before

pub returns-in-Err-clause-missing_from : goal.returns-in-Err-clause-missing_from
returns-in-Err-clause-missing_from g c =
    rw (← c.self.view_is, joined-lists c.self.inside.chunks, place-lists c.self.inside.chunks c.in-Err.p) c.in-Err.ensures.missing_from

pub returns-in-Ok-clause-few : goal.returns-in-Ok-clause-few
returns-in-Ok-clause-few g c =
    rw (← c.self.view_is) (omega (arith, length-map c.self.inside.chunks items_of, c.is_empty.ensures.few))

pub returns-in-Err-clause-few : goal.returns-in-Err-clause-few
returns-in-Err-clause-few g c =
    rw (← c.self.view_is) (omega (arith, length-map c.self.inside.chunks items_of, c.is_empty.ensures.few))

pub returns-then-is_empty-clause-few : goal.returns-then-is_empty-clause-few
returns-then-is_empty-clause-few g c =
    let none : length c.self.inside.chunks ≡ 0 = search rules in
    rw (← c.self.view_is) (omega (arith, length-map c.self.inside.chunks items_of, none))

pub returns-then-is_empty-clause-fewer : goal.returns-then-is_empty-clause-fewer
returns-then-is_empty-clause-fewer g c = rw (← c.self.view_is) (lists-few c.self.inside.chunks)

pub returns-in-Ok-clause-fewer : goal.returns-in-Ok-clause-fewer
returns-in-Ok-clause-fewer g c = rw (← c.self.view_is) (lists-few c.self.inside.chunks)

pub returns-in-Err-clause-fewer : goal.returns-in-Err-clause-fewer
returns-in-Err-clause-fewer g c = rw (← c.self.view_is) (lists-few c.self.inside.chunks)

use Rattle.std.proofs.Common.{rules, ◌≡◌, length, arith}
use Rattle.std.proofs.lemmas.List.{length-map}
use Rattle.range_list.specs.Chunks.{items_of}
use Rattle.range_list.proofs.InOrder.{place-within}
use Rattle.range_list.proofs.Listed.{joined-lists, place-lists, IsPlaceAt-from, lists-few}
use Rattle.range_list.proofs.list.Chunks.place_below.Goals as goal

pub below-requires-clause-ascending : goal.below-requires-clause-ascending
below-requires-clause-ascending g c = rw (← c.self.view_is, joined-lists c.self.inside.chunks) at c.requires.ascending

pub returns-clause-place : goal.returns-clause-place
returns-clause-place g c = rw (← c.self.view_is) (IsPlaceAt-from c.self.inside.chunks _ c.below.ensures.place)

pub returns-clause-within : goal.returns-clause-within
returns-clause-within g c =
    let here = c.below.ensures.place in
    rw (← c.self.view_is, joined-lists c.self.inside.chunks, place-lists c.self.inside.chunks c.below.result) (place-within c.self.inside.chunks c.below.result here)

pub returns-clause-below : goal.returns-clause-below
returns-clause-below g c =
    rw (← c.self.view_is, joined-lists c.self.inside.chunks, place-lists c.self.inside.chunks c.below.result) c.below.ensures.below

pub returns-clause-from : goal.returns-clause-from
returns-clause-from g c =
    rw (← c.self.view_is, joined-lists c.self.inside.chunks, place-lists c.self.inside.chunks c.below.result) c.below.ensures.from

pub returns-clause-few : goal.returns-clause-few
returns-clause-few g c =
    rw (← c.self.view_is) (omega (arith, length-map c.self.inside.chunks items_of, c.is_empty.ensures.few))

pub returns-then-is_empty-clause-few : goal.returns-then-is_empty-clause-few
returns-then-is_empty-clause-few g c =
    let none : length c.self.inside.chunks ≡ 0 = search rules in
    rw (← c.self.view_is) (omega (arith, length-map c.self.inside.chunks items_of, none))

pub returns-then-is_empty-clause-fewer : goal.returns-then-is_empty-clause-fewer
returns-then-is_empty-clause-fewer g c = rw (← c.self.view_is) (lists-few c.self.inside.chunks)

pub returns-clause-fewer : goal.returns-clause-fewer
returns-clause-fewer g c = rw (← c.self.view_is) (lists-few c.self.inside.chunks)

use Rattle.std.proofs.Common.{◌<◌, ◌∙◌, ap, length, arith}
use Rattle.range_list.specs.Chunks.{flat}
use Rattle.range_list.specs.Places.{place_in}
use Rattle.range_list.proofs.Listed.{joined-lists, place-lists, IsPlace-from, some-chunks, keyed-lists, places-lists}
use Rattle.range_list.proofs.Counted.{length-keyed}
use Rattle.range_list.proofs.list.Chunks.set_key.Goals as goal

pub item_place-at-requires-clause-place : goal.item_place-at-requires-clause-place
item_place-at-requires-clause-place g c =
    let xs = c.self.inside.chunks in
    let item : place_in xs c.args.at < length (flat xs) = omega (arith, place-lists xs c.args.at, ap length (joined-lists xs), rw (← c.self.view_is) at c.requires.item) in
    IsPlace-from xs c.args.at (some-chunks xs (place_in xs c.args.at) item) (rw (← c.self.view_is) at c.requires.place)

pub item_place-at-requires-clause-item : goal.item_place-at-requires-clause-item
item_place-at-requires-clause-item g c =
    let xs = c.self.inside.chunks in
    omega (arith, place-lists xs c.args.at, ap length (joined-lists xs), rw (← c.self.view_is) at c.requires.item)

pub returns-clause-items : goal.returns-clause-items
returns-clause-items g c =
    let xs = c.self.inside.chunks in
    rw (← c.self.view_is)
    (λ d. keyed-lists (λ x. g.L.SetKey.with_key x c.args.key) xs c.set_key.new.chunks c.args.at (place_in xs c.item_place-at.result) d
    c.item_place-at.ensures.same (c.set_key.ensures.items d))

pub returns-clause-places : goal.returns-clause-places
returns-clause-places g c =
    let xs = c.self.inside.chunks in
    let item : place_in xs c.args.at < length (flat xs) = omega (arith, place-lists xs c.args.at, ap length (joined-lists xs), rw (← c.self.view_is) at c.requires.item) in
    rw (← c.self.view_is) (places-lists xs c.set_key.new.chunks (some-chunks xs (place_in xs c.args.at) item) c.set_key.ensures.places)

pub invariant_of-self : goal.invariant_of-self
invariant_of-self g c =
    let xs = c.self.inside.chunks in
    let item : place_in xs c.args.at < length (flat xs) = omega (arith, place-lists xs c.args.at, ap length (joined-lists xs), rw (← c.self.view_is) at c.requires.item) in
    let there = c.item_place-at.ensures.same in
    c.self.invariant
    ∙ length-keyed (λ x. g.L.SetKey.with_key x c.args.key) xs (flat c.set_key.new.chunks) (place_in xs c.item_place-at.result) (omega (arith, item, there)) c.set_key.ensures.items

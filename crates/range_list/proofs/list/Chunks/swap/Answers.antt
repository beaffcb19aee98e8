use Rattle.std.proofs.Common.{◌<◌, ap, length, arith}
use Rattle.range_list.specs.Chunks.{flat}
use Rattle.range_list.specs.Places.{place_in}
use Rattle.range_list.proofs.Listed.{joined-lists, place-lists, IsPlace-from, some-chunks, places-lists, swapped-lists}
use Rattle.range_list.proofs.list.Chunks.swap.Goals as goal

pub item_place-a-requires-clause-place : goal.item_place-a-requires-clause-place
item_place-a-requires-clause-place g c =
    let xs = c.self.inside.chunks in
    let item : place_in xs c.args.b < length (flat xs) = omega (arith, place-lists xs c.args.b, ap length (joined-lists xs), rw (← c.self.view_is) at c.requires.b_item) in
    IsPlace-from xs c.args.a (some-chunks xs (place_in xs c.args.b) item) (rw (← c.self.view_is) at c.requires.a)

pub item_place-a-requires-clause-item : goal.item_place-a-requires-clause-item
item_place-a-requires-clause-item g c =
    let xs = c.self.inside.chunks in
    (omega (arith, place-lists xs c.args.a, place-lists xs c.args.b, ap length (joined-lists xs), rw (← c.self.view_is) at c.requires.b_item, rw (← c.self.view_is) at c.requires.ordered))

pub item_place-b-requires-clause-place : goal.item_place-b-requires-clause-place
item_place-b-requires-clause-place g c =
    let xs = c.self.inside.chunks in
    let item : place_in xs c.args.b < length (flat xs) = omega (arith, place-lists xs c.args.b, ap length (joined-lists xs), rw (← c.self.view_is) at c.requires.b_item) in
    IsPlace-from xs c.args.b (some-chunks xs (place_in xs c.args.b) item) (rw (← c.self.view_is) at c.requires.b)

pub item_place-b-requires-clause-item : goal.item_place-b-requires-clause-item
item_place-b-requires-clause-item g c =
    let xs = c.self.inside.chunks in
    omega (arith, place-lists xs c.args.b, ap length (joined-lists xs), rw (← c.self.view_is) at c.requires.b_item)

pub swap_items-requires-clause-ordered : goal.swap_items-requires-clause-ordered
swap_items-requires-clause-ordered g c =
    let xs = c.self.inside.chunks in
    omega (
      arith,
      place-lists xs c.args.a,
      place-lists xs c.args.b,
      c.item_place-a.ensures.same,
      c.item_place-b.ensures.same,
      rw (← c.self.view_is) at c.requires.ordered,
    )

pub returns-clause-items : goal.returns-clause-items
returns-clause-items g c =
    let xs = c.self.inside.chunks in
    rw (← c.self.view_is)
    (swapped-lists xs c.swap_items.new.chunks c.item_place-a.result c.item_place-b.result c.args.a c.args.b
    c.item_place-a.ensures.same c.item_place-b.ensures.same c.swap_items.ensures.items)

pub returns-clause-places : goal.returns-clause-places
returns-clause-places g c =
    let xs = c.self.inside.chunks in
    let item : place_in xs c.args.b < length (flat xs) = omega (arith, place-lists xs c.args.b, ap length (joined-lists xs), rw (← c.self.view_is) at c.requires.b_item) in
    rw (← c.self.view_is) (places-lists xs c.swap_items.new.chunks (some-chunks xs (place_in xs c.args.b) item) c.swap_items.ensures.places)

use Rattle.std.proofs.Common.{◌<◌, ap, length, arith}
use Rattle.range_list.specs.Chunks.{flat}
use Rattle.range_list.specs.Places.{place_in}
use Rattle.range_list.proofs.Listed.{IsPlace-from, IsPlaceAt-from, place-lists, joined-lists, some-chunks}
use Rattle.range_list.proofs.list.Chunks.place_after.Goals as goal

pub place_after-requires-clause-place : goal.place_after-requires-clause-place
place_after-requires-clause-place g c =
    let xs = c.self.inside.chunks in
    let item : place_in xs c.args.at < length (flat xs) = omega (arith, place-lists xs c.args.at, ap length (joined-lists xs), rw (← c.self.view_is) at c.requires.item) in
    IsPlace-from xs c.args.at (some-chunks xs (place_in xs c.args.at) item) (rw (← c.self.view_is) at c.requires.place)

pub place_after-requires-clause-item : goal.place_after-requires-clause-item
place_after-requires-clause-item g c =
    let xs = c.self.inside.chunks in
    omega (arith, place-lists xs c.args.at, ap length (joined-lists xs), rw (← c.self.view_is) at c.requires.item)

pub returns-clause-place : goal.returns-clause-place
returns-clause-place g c = rw (← c.self.view_is) (IsPlaceAt-from c.self.inside.chunks _ c.place_after.ensures.place)

pub returns-clause-after : goal.returns-clause-after
returns-clause-after g c =
    let xs = c.self.inside.chunks in
    rw (← c.self.view_is) (omega (arith, place-lists xs c.args.at, place-lists xs c.place_after.result, c.place_after.ensures.after))

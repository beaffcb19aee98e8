use Rattle.std.proofs.Common.{◌+◌, ◌<◌, arith, rules}
use Rattle.range_list.proofs.Listed.{IsPlace-from, IsPlaceAt-from, place-lists, behind-front}
use Rattle.range_list.proofs.list.Chunks.place_before.Goals as goal

pub place_before-requires-clause-place : goal.place_before-requires-clause-place
place_before-requires-clause-place g c =
    let xs = c.self.inside.chunks in
    let some : 0 < c.args.at.chunk + c.args.at.index = search rules in
    IsPlace-from xs c.args.at (behind-front xs c.args.at (rw (← c.self.view_is) at c.requires) some).0 (rw (← c.self.view_is) at c.requires)

pub place_before-requires-clause-some : goal.place_before-requires-clause-some
place_before-requires-clause-some g c =
    let some : 0 < c.args.at.chunk + c.args.at.index = search rules in
    (behind-front c.self.inside.chunks c.args.at (rw (← c.self.view_is) at c.requires) some).1

pub returns-clause-place : goal.returns-clause-place
returns-clause-place g c = rw (← c.self.view_is) (IsPlaceAt-from c.self.inside.chunks _ c.place_before.ensures.place)

pub returns-clause-before : goal.returns-clause-before
returns-clause-before g c =
    let xs = c.self.inside.chunks in
    rw (← c.self.view_is) (omega (arith, place-lists xs c.args.at, place-lists xs c.place_before.result, c.place_before.ensures.before))

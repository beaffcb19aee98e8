use Rattle.std.proofs.Common.{◌≡◌, ◌+◌, arith, rules}
use Rattle.range_list.specs.Chunks.{flat}
use Rattle.range_list.specs.Places.{place_in}
use Rattle.range_list.proofs.InOrder.{place-within}
use Rattle.range_list.proofs.Twice.{length-put, spliced-two}
use Rattle.range_list.proofs.splicing.put_both.Goals as goal

pub place_after-requires-clause-item : goal.place_after-requires-clause-item
place_after-requires-clause-item g c = omega (arith, c.requires.some, place-within c.args.chunks.now c.args.to c.requires.to)

pub place_after-after-requires-clause-item : goal.place_after-after-requires-clause-item
place_after-after-requires-clause-item g c =
    let xs = c.args.chunks.now in
    let end = place-within xs c.args.to c.requires.to in
    (omega (
      arith,
      c.requires.some,
      end,
      c.in-Ok.ensures.same,
      length-put (flat xs) (flat c.insert_at.new.chunks) (place_in xs c.args.from) c.args.start (omega (arith, c.requires.some, end)) c.in-Ok.ensures.items,
    ))

pub overwrite-replaced-requires-clause-room : goal.overwrite-replaced-requires-clause-room
overwrite-replaced-requires-clause-room g c =
    let xs = c.args.chunks.now in
    let end = place-within xs c.args.to c.requires.to in
    omega (
      arith,
      c.requires.some,
      end,
      c.in-Ok.ensures.same,
      c.place_after-after.ensures.after,
      length-put (flat xs) (flat c.insert_at.new.chunks) (place_in xs c.args.from) c.args.start (omega (arith, c.requires.some, end)) c.in-Ok.ensures.items,
    )

pub returns-in-Ok-clause-items : goal.returns-in-Ok-clause-items
returns-in-Ok-clause-items g c =
    let xs = c.args.chunks.now in
    let end = place-within xs c.args.to c.requires.to in
    let next : place_in xs c.args.to ≡ place_in xs c.args.from + 1 = search rules in
    spliced-two (flat xs) (flat c.insert_at.new.chunks) (flat c.overwrite-replaced.new.chunks) (place_in xs c.args.from)
    (place_in c.insert_at.new.chunks c.place_after-after.result) (place_in xs c.args.to) c.args.start c.args.end
    (omega (arith, c.requires.some, end)) next
    (omega (arith, c.in-Ok.ensures.same, c.place_after-after.ensures.after)) c.in-Ok.ensures.items c.overwrite-replaced.ensures.items

use Rattle.std.proofs.Common.{◌≡◌, rules}
use Rattle.range_list.specs.Chunks.{flat}
use Rattle.range_list.specs.Places.{place_in}
use Rattle.range_list.proofs.InOrder.{put-one}
use Rattle.range_list.proofs.overwriting.overwrite.Goals as goal

pub returns-in-Some-clause-items : goal.returns-in-Some-clause-items
returns-in-Some-clause-items g c =
    let room = rw c.in-Some.is at c.requires.room in
    let same : place_in c.args.chunks.now c.item_place-at.result ≡ place_in c.args.chunks.now c.args.at = search rules in
    rw c.in-Some.is
    (put-one (flat c.args.chunks.now) (flat c.put-replaced.new.chunks) (place_in c.args.chunks.now c.args.at) (place_in c.args.chunks.now c.item_place-at.result) c.in-Some.item
    c.put-replaced.ensures.items same room)

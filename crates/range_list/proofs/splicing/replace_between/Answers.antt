use Rattle.std.proofs.Common.{refl, arith}
use Rattle.range_list.specs.Chunks.{flat}
use Rattle.range_list.proofs.InOrder.{place-within}
use Rattle.range_list.proofs.Joined.{room-mid, joined}
use Rattle.range_list.proofs.splicing.replace_between.Goals as goal

pub overwrite-first-requires-clause-room : goal.overwrite-first-requires-clause-room
overwrite-first-requires-clause-room g c = omega (arith, c.requires.room, place-within c.args.chunks.now c.args.to c.requires.to)

pub overwrite-second-requires-clause-room : goal.overwrite-second-requires-clause-room
overwrite-second-requires-clause-room g c =
    room-mid c.args.chunks.now c.overwrite-first.new.chunks c.overwrite-first.new.chunks c.args.from c.overwrite-first.result.0 c.overwrite-first.result.0 c.args.to c.args.start c.args.end c.requires.to
    c.overwrite-first.ensures.places (λ p here. (here, refl)) c.requires.room c.overwrite-first.ensures.after

pub returns : goal.returns
returns g c =
    joined c.args.chunks.now c.overwrite-first.new.chunks c.overwrite-second.new.chunks c.args.from c.overwrite-first.result.0 c.overwrite-second.result.0 c.args.to c.args.start c.args.end c.requires.to
    c.overwrite-first.ensures.places c.overwrite-second.ensures.places c.requires.room c.overwrite-first.ensures.after
    (flat c.remove_between.new.chunks) c.overwrite-second.ensures.after c.overwrite-first.ensures.items c.overwrite-second.ensures.items c.remove_between.ensures

use Rattle.std.proofs.Common.{◌≡◌, ◌+◌, ◌∙◌, ap, length, arith}
use Rattle.std.specs.Option.{option_to_list}
use Rattle.range_collections.specs.Splicing.{spliced}
use Rattle.range_collections.proofs.Splices.{spliced-twice}
use Rattle.range_c.proofs.Room.{spliced-in_room}
use Rattle.range_c.proofs.in_place.splice.Goals as goal

pub returns-clause-items : goal.returns-clause-items
returns-clause-items g c =
    λ fits.
    let xs = c.args.buffer.now in
    let ys = c.copy_within.new.self in
    let after = c.args.from + c.count.result + c.count-2.result in
    let few : after ≡ c.args.from + length (option_to_list c.args.start) + length (option_to_list c.args.end) =
    omega (arith, c.count.ensures.value, c.count-2.ensures.value) in
    let at : c.overwrite.result ≡ after =
    omega (arith, few, c.overwrite-next.ensures.after, c.overwrite.ensures.after) in
    let put : c.overwrite.new.items ≡ spliced ys c.args.from c.overwrite.result c.args.start c.args.end =
    c.overwrite.ensures.items
    ∙ spliced-twice ys c.overwrite-next.new.items c.args.from c.overwrite-next.result c.overwrite.result c.args.start c.args.end
    (omega (arith, few, fits, c.copy_within.ensures.len)) c.overwrite-next.ensures.after c.overwrite.ensures.after c.overwrite-next.ensures.items in
    spliced-in_room xs ys c.overwrite.new.items c.args.len c.args.from c.args.to after c.args.start c.args.end
    c.requires.ordered c.requires.within c.requires.room few fits c.copy_within.ensures.after
    (put ∙ ap (λ n. spliced ys c.args.from n c.args.start c.args.end) at)

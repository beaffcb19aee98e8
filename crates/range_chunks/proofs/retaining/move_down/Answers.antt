use Rattle.std.proofs.Common.{ap, ◌∙◌, ◌+◌, length, arith}
use Rattle.std.proofs.lemmas.List.Edits.{length-swap}
use Rattle.range_list.specs.Lists.{joined, place_at}
use Rattle.range_chunks.proofs.Retained.{first_of, take-moved, drop-moved}
use Rattle.range_chunks.proofs.retaining.move_down.Goals as goal

pub place_after-requires-clause-place : goal.place_after-requires-clause-place
place_after-requires-clause-place g c = (c.swap.ensures.places c.args.end c.requires.end).0

pub place_after-requires-clause-item : goal.place_after-requires-clause-item
place_after-requires-clause-item g c =
    let items = joined c.args.list.now in
    let n = place_at c.args.list.now c.args.end in
    let i = place_at c.args.list.now c.args.at in
    omega (arith, c.requires.ordered, c.requires.item, (c.swap.ensures.places c.args.end c.requires.end).1, ap length c.swap.ensures.items ∙ length-swap items n i)

pub returns-clause-len : goal.returns-clause-len
returns-clause-len g c =
    ap length c.swap.ensures.items ∙ length-swap (joined c.args.list.now) (place_at c.args.list.now c.args.end) (place_at c.args.list.now c.args.at)

pub returns-clause-later : goal.returns-clause-later
returns-clause-later g c =
    let items = joined c.args.list.now in
    let i = place_at c.args.list.now c.args.at in
    drop-moved items (joined c.swap.new.self) (place_at c.args.list.now c.args.end) i c.requires.ordered c.requires.item c.swap.ensures.items
    (first_of items i c.requires.item)

pub returns-clause-after : goal.returns-clause-after
returns-clause-after g c = c.place_after.ensures.after ∙ ap (λ m. m + 1) (c.swap.ensures.places c.args.end c.requires.end).1

pub returns-clause-kept : goal.returns-clause-kept
returns-clause-kept g c = λ d.
    take-moved (joined c.args.list.now) (joined c.swap.new.self) (place_at c.args.list.now c.args.end) (place_at c.args.list.now c.args.at) c.requires.ordered c.requires.item c.swap.ensures.items d

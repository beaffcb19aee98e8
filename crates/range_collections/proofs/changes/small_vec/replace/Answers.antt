use Rattle.std.proofs.Common.{◌≡◌, length, refl, arith}
use Rattle.std.specs.Option.{option_to_list}
use Rattle.range_collections.proofs.Splices.{set-parts}
use Rattle.range_collections.proofs.changes.small_vec.replace.Goals as goal

pub returns-in-Some-clause-items : goal.returns-in-Some-clause-items
returns-in-Some-clause-items g c =
    let items = c.args.items.now in
    let i = c.args.at in
    let one : length (option_to_list c.args.item) ≡ 1 = rw c.in-Some.is refl in
    rw c.replace.ensures.after (rw c.in-Some.is (set-parts items i c.in-Some.item (omega (arith, c.requires, one))))

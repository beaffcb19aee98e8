use Rattle.std.proofs.Common.{refl, ap, length, ◌∙◌}
use Rattle.std.proofs.lemmas.List.{length-set}
use Rattle.range_merge.proofs.Moves.{refill_all}
use Rattle.range_merge.proofs.in_place.list.SmallVecGrowsByHole.set.Goals as goal

pub replace_item-requires : goal.replace_item-requires
replace_item-requires g c = rw c.as_mut_slice.ensures.value c.requires

pub returns-clause-items : goal.returns-clause-items
returns-clause-items g c =
    let items = c.args.self.now.items in
    let replaced = rw c.as_mut_slice.ensures.value at c.replace_item.ensures in
    refill_all items c.replace_item.new.items (ap length replaced ∙ length-set items c.args.i c.args.item) ∙ replaced

pub returns-clause-room : goal.returns-clause-room
returns-clause-room g c = refl

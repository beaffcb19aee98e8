use Rattle.std.proofs.Common.{rules, ◌∙◌, sym}
use Rattle.range_list.proofs.Listed.{IsPlace-from, before-lists, before-none}
use Rattle.range_list.proofs.list.Chunks.item_before.Goals as goal

pub returns-then-is_empty : goal.returns-then-is_empty
returns-then-is_empty g c = rw (← c.self.view_is) (before-none c.self.inside.chunks c.args.at (search rules) (rw (← c.self.view_is) at c.requires))

pub item_before-requires : goal.item_before-requires
item_before-requires g c = record { place = IsPlace-from c.self.inside.chunks c.args.at (search rules) (rw (← c.self.view_is) at c.requires) }

pub returns : goal.returns
returns g c = rw (← c.self.view_is) ((c.item_before.ensures) ∙ sym (before-lists c.self.inside.chunks c.args.at))

use Rattle.std.proofs.Common.{rules, ◌∙◌, sym}
use Rattle.range_list.specs.Chunks.{flat}
use Rattle.range_list.specs.Places.{place_in}
use Rattle.range_list.proofs.Listed.{IsPlace-from, item-lists, item-none, got}
use Rattle.range_list.proofs.list.Chunks.item_at.Goals as goal

pub returns-then-is_empty : goal.returns-then-is_empty
returns-then-is_empty g c = rw (← c.self.view_is) (item-none c.self.inside.chunks c.args.at (search rules))

pub item_at-requires : goal.item_at-requires
item_at-requires g c = record { place = IsPlace-from c.self.inside.chunks c.args.at (search rules) (rw (← c.self.view_is) at c.requires) }

pub returns : goal.returns
returns g c =
    rw (← c.self.view_is)
    (got (flat c.self.inside.chunks) (place_in c.self.inside.chunks c.args.at) c.item_at.result c.item_at.ensures
    ∙ sym (item-lists c.self.inside.chunks c.args.at))

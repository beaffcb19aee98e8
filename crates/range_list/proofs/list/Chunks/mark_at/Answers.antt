use Rattle.std.proofs.Common.{rules, ◌∙◌, sym, ap}
use Rattle.range_list.proofs.Listed.{IsPlace-from, place-lists, place-none}
use Rattle.range_list.proofs.list.Chunks.mark_at.Goals as goal

pub returns-then-is_empty : goal.returns-then-is_empty
returns-then-is_empty g c =
    rw (← c.self.view_is) (c.front.ensures ∙ ap g.M.Mark.of (sym (place-none c.self.inside.chunks c.args.at (search rules) (rw (← c.self.view_is) at c.requires))))

pub mark_at-requires : goal.mark_at-requires
mark_at-requires g c = record { place = IsPlace-from c.self.inside.chunks c.args.at (search rules) (rw (← c.self.view_is) at c.requires) }

pub returns : goal.returns
returns g c = rw (← c.self.view_is) ((c.mark_at.ensures) ∙ ap g.M.Mark.of (sym (place-lists c.self.inside.chunks c.args.at)))

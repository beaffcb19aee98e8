use Rattle.std.proofs.Common.{◌∙◌, ◌∷◌, [], ◌++◌, sym, ap}
use Rattle.range_list.proofs.Listed.{joined-lists, same-lists, filled-lists}
use Rattle.range_list.proofs.Counted.{kept-on_err}
use Rattle.range_list.proofs.list.Chunks.push.Goals as goal

pub returns-clause-items : goal.returns-clause-items
returns-clause-items g c =
    rw (← c.self.view_is) (joined-lists c.push.new.chunks ∙ c.in_ok-push.ensures.items ∙ ap (λ zs. zs ++ c.args.item ∷ []) (sym (joined-lists c.self.inside.chunks)))

pub returns-clause-fills : goal.returns-clause-fills
returns-clause-fills g c =
    rw (← c.self.view_is) (filled-lists c.self.inside.chunks c.push.new.chunks c.in_ok-push.ensures.fills)

pub returns-in_err-push-clause-unchanged : goal.returns-in_err-push-clause-unchanged
returns-in_err-push-clause-unchanged g c =
    rw (← c.self.view_is) (kept-on_err _ (same-lists c.self.inside.chunks c.push.new.chunks c.in_err-push.ensures.unchanged))

pub returns-in_err-push-clause-fills : goal.returns-in_err-push-clause-fills
returns-in_err-push-clause-fills g c =
    rw (← c.self.view_is) (filled-lists c.self.inside.chunks c.push.new.chunks c.in_err-push.ensures.fills)

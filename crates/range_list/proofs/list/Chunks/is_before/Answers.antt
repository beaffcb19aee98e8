use Rattle.std.proofs.Common.{rules, sym, ◌∙◌, arith}
use Rattle.range_list.proofs.Listed.{place-lists, place-none, IsPlace-from}
use Rattle.range_list.proofs.list.Chunks.is_before.Goals as goal

pub returns-then-is_empty-clause-none : goal.returns-then-is_empty-clause-none
returns-then-is_empty-clause-none g c =
    rw (← c.self.view_is)
    (λ _. place-none c.self.inside.chunks c.args.from (search rules) (rw (← c.self.view_is) at c.requires.from)
    ∙ sym (place-none c.self.inside.chunks c.args.to (search rules) (rw (← c.self.view_is) at c.requires.to)))

pub is_before-requires-clause-from : goal.is_before-requires-clause-from
is_before-requires-clause-from g c = IsPlace-from c.self.inside.chunks c.args.from (search rules) (rw (← c.self.view_is) at c.requires.from)

pub is_before-requires-clause-to : goal.is_before-requires-clause-to
is_before-requires-clause-to g c = IsPlace-from c.self.inside.chunks c.args.to (search rules) (rw (← c.self.view_is) at c.requires.to)

pub is_before-requires-clause-ordered : goal.is_before-requires-clause-ordered
is_before-requires-clause-ordered g c =
    omega (arith, place-lists c.self.inside.chunks c.args.from, place-lists c.self.inside.chunks c.args.to, rw (← c.self.view_is) at c.requires.ordered)

pub returns-clause-some : goal.returns-clause-some
returns-clause-some g c =
    rw (← c.self.view_is) (λ is. omega (arith, place-lists c.self.inside.chunks c.args.from, place-lists c.self.inside.chunks c.args.to, c.is_before.ensures.some is))

pub returns-clause-none : goal.returns-clause-none
returns-clause-none g c =
    rw (← c.self.view_is) (λ is. omega (arith, place-lists c.self.inside.chunks c.args.from, place-lists c.self.inside.chunks c.args.to, c.is_before.ensures.none is))

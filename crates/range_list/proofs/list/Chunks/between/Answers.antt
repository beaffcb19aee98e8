use Rattle.std.proofs.Common.{rules, ◌∙◌, sym, arith}
use Rattle.range_list.proofs.Listed.{IsPlace-from, place-lists, between-lists, between-none}
use Rattle.range_list.proofs.list.Chunks.between.Goals as goal

pub returns-then-is_empty : goal.returns-then-is_empty
returns-then-is_empty g c = rw (← c.self.view_is) (c.none.ensures ∙ between-none c.self.inside.chunks c.args.from c.args.to (search rules))

pub between-requires-clause-from : goal.between-requires-clause-from
between-requires-clause-from g c = rw c.as_slice.ensures (IsPlace-from c.self.inside.chunks c.args.from (search rules) (rw (← c.self.view_is) at c.requires.from))

pub between-requires-clause-to : goal.between-requires-clause-to
between-requires-clause-to g c = rw c.as_slice.ensures (IsPlace-from c.self.inside.chunks c.args.to (search rules) (rw (← c.self.view_is) at c.requires.to))

pub between-requires-clause-ordered : goal.between-requires-clause-ordered
between-requires-clause-ordered g c =
    rw c.as_slice.ensures (omega (arith, place-lists c.self.inside.chunks c.args.from, place-lists c.self.inside.chunks c.args.to, rw (← c.self.view_is) at c.requires.ordered))

pub returns : goal.returns
returns g c = rw (← c.self.view_is) ((rw c.as_slice.ensures at c.between.ensures) ∙ sym (between-lists c.self.inside.chunks c.args.from c.args.to))

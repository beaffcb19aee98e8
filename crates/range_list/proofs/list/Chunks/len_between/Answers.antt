use Rattle.std.proofs.Common.{rules, arith}
use Rattle.range_list.proofs.Listed.{IsPlace-from, place-lists, place-none}
use Rattle.range_list.proofs.list.Chunks.len_between.Goals as goal

pub returns-then-is_empty : goal.returns-then-is_empty
returns-then-is_empty g c =
    rw (← c.self.view_is) (omega (arith, place-none c.self.inside.chunks c.args.to (search rules) (rw (← c.self.view_is) at c.requires.to)))

pub len_between-requires-clause-from : goal.len_between-requires-clause-from
len_between-requires-clause-from g c = IsPlace-from c.self.inside.chunks c.args.from (search rules) (rw (← c.self.view_is) at c.requires.from)

pub len_between-requires-clause-to : goal.len_between-requires-clause-to
len_between-requires-clause-to g c = IsPlace-from c.self.inside.chunks c.args.to (search rules) (rw (← c.self.view_is) at c.requires.to)

pub len_between-requires-clause-ordered : goal.len_between-requires-clause-ordered
len_between-requires-clause-ordered g c =
    omega (arith, place-lists c.self.inside.chunks c.args.from, place-lists c.self.inside.chunks c.args.to, rw (← c.self.view_is) at c.requires.ordered)

pub returns : goal.returns
returns g c =
    rw (← c.self.view_is)
    (omega (arith, place-lists c.self.inside.chunks c.args.from, place-lists c.self.inside.chunks c.args.to, c.len_between.ensures))

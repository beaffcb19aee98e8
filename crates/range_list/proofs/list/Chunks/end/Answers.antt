use Rattle.std.proofs.Common.{rules, ap, length, arith}
use Rattle.range_list.proofs.Listed.{joined-lists, joined-none, place-lists, IsPlaceAt-from, IsPlaceAt-front}
use Rattle.range_list.proofs.list.Chunks.end.Goals as goal

pub returns-then-is_empty-clause-place : goal.returns-then-is_empty-clause-place
returns-then-is_empty-clause-place g c = rw (← c.self.view_is) (IsPlaceAt-front _)

pub returns-then-is_empty-clause-all : goal.returns-then-is_empty-clause-all
returns-then-is_empty-clause-all g c = rw (← c.self.view_is) (omega (arith, ap length (joined-none c.self.inside.chunks (search rules))))

pub returns-clause-place : goal.returns-clause-place
returns-clause-place g c = rw (← c.self.view_is) (IsPlaceAt-from c.self.inside.chunks _ c.end.ensures.place)

pub returns-clause-all : goal.returns-clause-all
returns-clause-all g c =
    rw (← c.self.view_is) (omega (arith, place-lists c.self.inside.chunks c.end.result, ap length (joined-lists c.self.inside.chunks), c.end.ensures.end))

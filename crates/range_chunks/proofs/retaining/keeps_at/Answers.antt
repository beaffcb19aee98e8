use Rattle.std.proofs.Common.{arith}
use Rattle.range_list.proofs.Placed.{place_at-within}
use Rattle.range_chunks.proofs.retaining.keeps_at.Goals as goal

pub between-requires-clause-ordered : goal.between-requires-clause-ordered
between-requires-clause-ordered g c = omega (arith, c.end.ensures.all, place_at-within c.args.list.now c.args.at c.requires.at)

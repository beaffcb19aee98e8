use Rattle.std.proofs.Common.{arith, rules}
use Rattle.range_list.proofs.Placed.{place_at-within}
use Rattle.range_chunks.proofs.counting.count_between.Goals as goal

pub overflow_cast-result : goal.overflow_cast-result
overflow_cast-result g c =
    omega (arith, c.len_between.ensures, c.len-len.ensures, c.len-len.type_inv, place_at-within c.args.list.now c.args.to c.requires.to)

pub returns-clause-few : goal.returns-clause-few
returns-clause-few g c = omega (arith, c.len_between.ensures, place_at-within c.args.list.now c.args.to c.requires.to)

use Rattle.std.proofs.Common.{arith}
use Rattle.range_list.proofs.Placed.{place_at-within}
use Rattle.range_list.proofs.list.Chunks.len_without.Goals as goal

pub overflow_cast-result : goal.overflow_cast-result
overflow_cast-result g c = omega (arith, c.len_between-between.ensures, place_at-within _ c.args.to c.requires.to, c.len.ensures, c.len.type_inv)

pub overflow_sub-result : goal.overflow_sub-result
overflow_sub-result g c = omega (arith, c.len_between-between.ensures, place_at-within _ c.args.to c.requires.to, c.len.ensures)

pub returns-clause-len : goal.returns-clause-len
returns-clause-len g c = omega (arith, c.len_between-between.ensures, c.len.ensures)

pub returns-clause-within : goal.returns-clause-within
returns-clause-within g c = place_at-within _ c.args.to c.requires.to

pub returns-clause-few : goal.returns-clause-few
returns-clause-few g c = omega (arith, c.len.ensures, c.len.type_inv)

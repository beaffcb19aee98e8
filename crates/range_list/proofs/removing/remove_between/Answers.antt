use Rattle.std.proofs.Common.{arith}
use Rattle.range_list.proofs.InOrder.{removed-none}
use Rattle.range_list.proofs.removing.remove_between.Goals as goal

pub returns-then-from-to : goal.returns-then-from-to
returns-then-from-to g c = removed-none c.args.chunks.now c.args.from c.args.to c.requires.to (omega arith) c.requires.ordered

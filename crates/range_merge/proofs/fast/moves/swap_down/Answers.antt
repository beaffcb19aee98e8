use Rattle.std.proofs.Common.{refl}
use Rattle.range_merge.proofs.Moves.{take-in_place}
use Rattle.range_merge.proofs.fast.moves.swap_down.Goals as goal

pub returns-then-to-from-clause-front : goal.returns-then-to-from-clause-front
returns-then-to-from-clause-front g c = take-in_place c.args.items.now c.args.to c.args.from c.args.n c.if-to-from.true

pub returns-then-to-from-clause-after : goal.returns-then-to-from-clause-after
returns-then-to-from-clause-after g c = refl

pub returns-then-to-from-clause-len : goal.returns-then-to-from-clause-len
returns-then-to-from-clause-len g c = refl

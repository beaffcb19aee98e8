use Rattle.std.proofs.Common.{◌+◌, ◌-◌, ◌∙◌, arith}
use Rattle.std.proofs.lemmas.Slice.{drop-put_mid}
use Rattle.range_merge.proofs.Moves.{length-part, take-written}
use Rattle.range_merge.proofs.fast.moves.swap_many_down.Goals as goal

pub returns-clause-front : goal.returns-clause-front
returns-clause-front g c =
    take-written c.args.items.now c.last_to_front.new.items c.args.to c.args.from c.args.n (omega arith) c.requires.within
    c.last_to_front.ensures.len c.last_to_front.ensures.front

pub returns-clause-after : goal.returns-clause-after
returns-clause-after g c =
    drop-put_mid c.args.to (c.args.from + c.args.n - c.args.to) c.args.items.now c.last_to_front.new.items (c.args.from + c.args.n) (omega arith)
    (omega arith)
    (c.last_to_front.ensures.len ∙ length-part c.args.items.now c.args.to c.args.from c.args.n (omega arith) c.requires.within)

use Rattle.std.proofs.Common.{◌+◌, ◌∙◌, arith}
use Rattle.std.proofs.lemmas.List.{length-set}
use Rattle.range_merge.proofs.Exchanges.{exchange-more}
use Rattle.range_merge.proofs.fast.moves.exchange_few.Goals as goal

pub loop-i-preserved : goal.loop-i-preserved
loop-i-preserved g c =
    let held = c.loop-i.invariant in
    let at = c.args.at + c.loop-i.i in
    let further =
    exchange-more c.args.items.now c.loop-i.items c.loop-i.others c.args.at c.loop-i.i c.index-items-at.result c.swap.new.x
    (omega (arith, c.requires.within, held.as_many)) (omega (arith, held.as_many)) held.len held.front held.after in
    record {
      front = rw c.swap.ensures.y_after further.0;
      as_many = length-set c.loop-i.others c.loop-i.i c.swap.new.y ∙ held.as_many;
      after = further.1;
      len = length-set c.loop-i.items at c.swap.new.x ∙ held.len;
    }

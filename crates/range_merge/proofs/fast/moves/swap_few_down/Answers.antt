use Rattle.std.proofs.Common.{◌+◌, ◌∙◌, arith}
use Rattle.std.proofs.lemmas.List.Edits.{length-swap}
use Rattle.range_merge.proofs.Moves.{move_down-more}
use Rattle.range_merge.proofs.fast.moves.swap_few_down.Goals as goal

pub loop-i-preserved : goal.loop-i-preserved
loop-i-preserved g c =
    let so_far = c.loop-i.invariant in
    let further =
    move_down-more c.args.items.now c.loop-i.items c.args.to c.args.from c.loop-i.i c.requires.apart (omega arith) so_far.len so_far.front
    so_far.after in
    rw c.swap.ensures.after
    record {
      front = further.0;
      after = further.1;
      len = length-swap c.loop-i.items (c.args.to + c.loop-i.i) (c.args.from + c.loop-i.i) ∙ so_far.len;
    }

use Rattle.std.proofs.Common.{◌-◌, arith}
use Rattle.range_merge.proofs.Moves.{move_up-block}
use Rattle.range_merge.proofs.fast.moves.swap_blocks_up.Goals as goal

pub loop-i-preserved : goal.loop-i-preserved
loop-i-preserved g c =
    let so_far = c.loop-i.invariant in
    let further =
    move_up-block c.args.items.now c.loop-i.items c.exchange_ends.new.items c.args.by c.loop-i.i (c.loop-i.i - c.min-n.result) c.min-n.result
    (omega (arith, c.min-n.ensures)) (omega (arith, c.min-n.ensures)) so_far.within so_far.len so_far.front so_far.after
    c.exchange_ends.ensures.len c.exchange_ends.ensures.last in
    record {
      from = omega (arith, c.min-n.ensures);
      within = omega (arith, so_far.within);
      front = further.0;
      after = further.1;
      len = further.2;
    }

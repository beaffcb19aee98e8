use Rattle.std.proofs.Common.{◌+◌, ◌-◌, ◌∙◌, arith, refl}
use Rattle.std.proofs.lemmas.List.Edits.{length-swap}
use Rattle.range_merge.proofs.Moves.{move_up-more, moved_up-none}
use Rattle.range_merge.proofs.fast.moves.swap_few_up.Goals as goal

pub loop-i-init : goal.loop-i-init
loop-i-init g c = record {
  from = omega (arith, c.requires.within);
  within = omega (arith, c.requires.within);
  front = refl;
  after = moved_up-none c.args.items.now c.args.by (omega (arith, c.requires.within));
  len = refl;
}

pub loop-i-preserved : goal.loop-i-preserved
loop-i-preserved g c =
    let so_far = c.loop-i.invariant in
    let further =
    move_up-more c.args.items.now c.loop-i.items c.args.by c.loop-i.i (c.loop-i.i - 1) c.requires.some (omega arith) so_far.within so_far.len
    so_far.front so_far.after in
    rw c.swap.ensures.after
    record {
      from = omega arith;
      within = omega (arith, so_far.within);
      front = further.0;
      after = further.1;
      len = length-swap c.loop-i.items (c.loop-i.i - 1) (c.loop-i.i - 1 + c.args.by) ∙ so_far.len;
    }

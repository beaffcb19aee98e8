use Rattle.range_merge.proofs.Moves.{drop-turned}
use Rattle.range_merge.proofs.fast.moves.swap_many_up.Goals as goal

pub returns-clause-after : goal.returns-clause-after
returns-clause-after g c =
    rw (c.rotate_right.ensures.after, c.split_at_mut-front.ensures.front, c.split_at_mut-front.ensures.back)
    (drop-turned c.args.items.now c.args.at c.args.by c.requires.within)

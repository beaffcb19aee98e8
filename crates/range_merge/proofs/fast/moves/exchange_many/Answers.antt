use Rattle.std.proofs.Common.{length}
use Rattle.range_merge.proofs.Exchanges.{drop-after}
use Rattle.range_merge.proofs.fast.moves.exchange_many.Goals as goal

pub returns-clause-after : goal.returns-clause-after
returns-clause-after g c =
    drop-after c.args.items.now c.swap_with_slice.new.self c.args.at (length c.args.others.now) c.requires.within c.swap_with_slice.ensures.len

use Rattle.range_merge.proofs.Exchanges.{drop-after}
use Rattle.range_merge.proofs.in_place.list.put_between.Goals as goal

pub returns-clause-after : goal.returns-clause-after
returns-clause-after g c =
    drop-after c.args.items.now c.put_front.new.slots c.args.at c.args.n c.requires.within c.put_front.ensures.len

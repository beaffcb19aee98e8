use Rattle.range_collections.proofs.Endless.{HasAllFrom-next_gap}
use Rattle.range_collections.proofs.view.endless.has_all_from.Goals as goal

pub returns : goal.returns
returns g c =
    HasAllFrom-next_gap g.T.Ord.cmp c.args.items.now c.args.start.now c.next_gap.result c.is_none.result c.is_none.ensures
    (rw (← c.new_unchecked.ensures) c.next_gap.ensures.next) (rw (← c.new_unchecked.ensures) c.next_gap.ensures.none)

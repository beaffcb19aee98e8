use Rattle.range_collections.proofs.Endless.{HasMemberFrom-next_member}
use Rattle.range_collections.proofs.view.endless.has_member_from.Goals as goal

pub returns : goal.returns
returns g c =
    HasMemberFrom-next_member g.T.Ord.cmp c.args.items.now c.args.start.now c.next_member.result c.is_some.result c.is_some.ensures
    (rw (← c.new_unchecked.ensures) c.next_member.ensures.next) (rw (← c.new_unchecked.ensures) c.next_member.ensures.none)

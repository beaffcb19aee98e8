use Rattle.std.proofs.Common.{rules}
use Rattle.range_merge.proofs.in_place.InPlaceStateMergeState.a_at.Goals as goal

pub unread_at-requires : goal.unread_at-requires
unread_at-requires g c = (search rules, rw (← c.self.view_is) at c.requires)

pub returns : goal.returns
returns g c = rw (← c.self.view_is) c.unread_at.ensures

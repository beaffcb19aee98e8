use Rattle.range_merge.proofs.in_place.InPlaceStateMergeState.a_len.Goals as goal

pub returns : goal.returns
returns g c = rw (← c.self.view_is) c.unread_len.ensures

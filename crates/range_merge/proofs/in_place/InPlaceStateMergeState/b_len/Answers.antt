use Rattle.range_merge.proofs.in_place.InPlaceStateMergeState.b_len.Goals as goal

pub returns : goal.returns
returns g c = rw (← c.self.view_is) c.len.ensures

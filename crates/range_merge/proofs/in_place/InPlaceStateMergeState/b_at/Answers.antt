use Rattle.range_merge.proofs.in_place.InPlaceStateMergeState.b_at.Goals as goal

pub at-requires : goal.at-requires
at-requires g c = rw (← c.self.view_is) at c.requires

pub returns : goal.returns
returns g c = rw (← c.self.view_is) c.at.ensures

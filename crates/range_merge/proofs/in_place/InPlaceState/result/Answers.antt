use Rattle.range_merge.proofs.in_place.InPlaceState.result.Goals as goal

pub returns-clause-items : goal.returns-clause-items
returns-clause-items g c = rw (← c.self.view_is) c.only_kept.ensures.items

pub returns-clause-room : goal.returns-clause-room
returns-clause-room g c = rw (← c.self.view_is) c.only_kept.ensures.room

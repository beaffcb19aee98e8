use Rattle.range_merge.proofs.in_place.list.SmallVecGrowsByHole.truncate.Goals as goal

pub returns-clause-items : goal.returns-clause-items
returns-clause-items g c = c.truncate.ensures.items

pub returns-clause-room : goal.returns-clause-room
returns-clause-room g c = c.truncate.ensures.capacity

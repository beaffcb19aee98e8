use Rattle.range_merge.proofs.merge_state.small_vec.SmallVecGrowsAtEnd.push.Goals as goal

pub returns-clause-items : goal.returns-clause-items
returns-clause-items g c = c.push_reserved.ensures.items

pub returns-clause-room : goal.returns-clause-room
returns-clause-room g c = c.push_reserved.ensures.capacity

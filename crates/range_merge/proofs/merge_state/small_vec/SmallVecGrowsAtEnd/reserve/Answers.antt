use Rattle.std.proofs.Common.{ap}
use Rattle.range_merge.proofs.merge_state.small_vec.SmallVecGrowsAtEnd.reserve.Goals as goal

pub returns-clause-items : goal.returns-clause-items
returns-clause-items g c = c.reserve.ensures.items

pub returns-clause-ok : goal.returns-clause-ok
returns-clause-ok g c = c.reserve.ensures.ok

pub returns-clause-succeeds : goal.returns-clause-succeeds
returns-clause-succeeds g c = c.reserve.ensures.succeeds

pub returns-clause-had_room : goal.returns-clause-had_room
returns-clause-had_room g c = λ fits. ap (λ list. list.capacity) (c.reserve.ensures.had_room fits)

use Rattle.range_merge.specs.Connective.{difference_table}
use Rattle.range_collections.proofs.RangeMembers.{members-parts}
use Rattle.range_list.specs.Lists.{joined}
use Rattle.range_chunks.proofs.set.ChunkedRangeSet.gaps.Goals as goal

pub returns-clause-members : goal.returns-clause-members
returns-clause-members g c =
    rw (← c.self.view_is)
    (members-parts g.met.T.Ord.total difference_table c.args.within (joined c.self.inside.list) c.parts_within.result c.parts_within.ensures.gives)

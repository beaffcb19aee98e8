use Rattle.range_merge.specs.Connective.{intersection_table}
use Rattle.range_collections.proofs.RangeMembers.{members-parts}
use Rattle.range_list.specs.Lists.{joined}
use Rattle.range_chunks.proofs.set.ChunkedRangeSet.ranges_within.Goals as goal

pub returns-clause-members : goal.returns-clause-members
returns-clause-members g c =
    rw (← c.self.view_is)
    (members-parts g.met.T.Ord.total intersection_table c.args.within (joined c.self.inside.list) c.parts_within.result c.parts_within.ensures.gives)

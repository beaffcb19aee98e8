use Rattle.range_merge.specs.Connective.{intersection_table}
use Rattle.range_collections.proofs.RangeMembers.{members-parts}
use Rattle.range_collections.proofs.view.RangeSetRef.ranges_within_counted.Goals as goal

pub returns-clause-members : goal.returns-clause-members
returns-clause-members g c =
    members-parts g.met.T.Ord.total intersection_table c.args.within c.args.self.now.boundaries.now c.parts_within.result c.parts_within.ensures.gives

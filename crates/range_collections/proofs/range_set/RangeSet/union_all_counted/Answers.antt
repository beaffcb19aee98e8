use Rattle.std.proofs.lemmas.Result.{IfOk-weaker}
use Rattle.range_collections.proofs.RangeMembers.{in_one_part}
use Rattle.range_collections.proofs.range_set.RangeSet.union_all_counted.Goals as goal

pub returns-clause-members : goal.returns-clause-members
returns-clause-members g c =
    IfOk-weaker c.union_of.result _ _
    (λ set m x. in_one_part g.T.Ord.cmp (λ part. part.boundaries.now) c.args.sets.now x _ (m.members x)) c.union_of.ensures.gives.means

use Rattle.std.proofs.lemmas.Result.{IfOk-weaker}
use Rattle.range_collections.proofs.Unions.{in_one_range}
use Rattle.range_collections.proofs.range_set.RangeSet.from_ranges.Goals as goal

pub returns-clause-members : goal.returns-clause-members
returns-clause-members g c =
    IfOk-weaker c.set_of_ranges.result _ _ (λ set m x. in_one_range g.met.T.Ord.total c.args.ranges.now x _ (m.members x)) c.set_of_ranges.ensures.means

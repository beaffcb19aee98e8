use Rattle.std.proofs.Common.{rules}
use Rattle.range_c.specs.Answers.{connective_of}
use Rattle.range_c.proofs.FromLeast.{AnswersFrom-plain, AnswersFrom-after}
use Rattle.range_c.proofs.from_least.combine_from.Goals as goal

pub returns-then-not-is_on : goal.returns-then-not-is_on
returns-then-not-is_on g c =
    AnswersFrom-plain g.met.T.Ord.total c.args.least (connective_of c.args.connective) c.args.a.now c.args.b.now _
    c.above-a_on.result.0 c.above-b_on.result.0 _ _ (search rules) (search rules)
    c.above-a_on.ensures.above c.above-b_on.ensures.above c.above-a_on.ensures.members c.above-b_on.ensures.members
    c.above-a_on.ensures.sorted c.above-b_on.ensures.sorted _ _ _ (search rules) c.merge.ensures

pub returns : goal.returns
returns g c =
    AnswersFrom-after g.met.T.Ord.total c.args.least (connective_of c.args.connective) c.args.a.now c.args.b.now _
    c.above-a_on.result.0 c.above-b_on.result.0 _ _ (search rules) (search rules)
    c.above-a_on.ensures.above c.above-b_on.ensures.above c.above-a_on.ensures.members c.above-b_on.ensures.members
    c.above-a_on.ensures.sorted c.above-b_on.ensures.sorted _ _ _ (search rules) c.merge_after.ensures.counted c.merge_after.ensures.front c.merge_after.ensures.after

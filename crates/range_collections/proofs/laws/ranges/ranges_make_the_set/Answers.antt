use Rattle.range_collections.proofs.RangesLemmas.{length-ranges_of, All-ranges_have, ranges_apart, members-ranges_of}
use Rattle.range_collections.proofs.laws.ranges.ranges_make_the_set.Goals as goal

pub returns-clause-count : goal.returns-clause-count
returns-clause-count g c = length-ranges_of

pub returns-clause-filled : goal.returns-clause-filled
returns-clause-filled g c = All-ranges_have g.met.T.Ord.total

pub returns-clause-apart : goal.returns-clause-apart
returns-clause-apart g c = ranges_apart g.met.T.Ord.total

pub returns-clause-members : goal.returns-clause-members
returns-clause-members g c = members-ranges_of g.met.T.Ord.total

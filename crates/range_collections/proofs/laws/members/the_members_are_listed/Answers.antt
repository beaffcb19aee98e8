use Rattle.range_collections.proofs.MembersOf.{length-members_of, All-members_of}
use Rattle.range_collections.proofs.laws.members.the_members_are_listed.Goals as goal

pub returns-clause-members : goal.returns-clause-members
returns-clause-members g c items = All-members_of g.T.Ord.cmp g.T.Countable.value items 0 g.T.Countable.count

pub returns-clause-count : goal.returns-clause-count
returns-clause-count g c items = length-members_of g.T.Ord.cmp g.T.Countable.value items g.T.Countable.count

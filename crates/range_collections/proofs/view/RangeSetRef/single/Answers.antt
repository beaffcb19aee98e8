use Rattle.range_collections.proofs.Values.{member-one}
use Rattle.range_collections.proofs.view.RangeSetRef.single.Goals as goal

pub returns-clause-boundaries : goal.returns-clause-boundaries
returns-clause-boundaries g c = c.from_ref.ensures.value

pub returns-clause-members : goal.returns-clause-members
returns-clause-members g c = λ x. rw c.from_ref.ensures.value (member-one g.met.T.Ord.total c.args.value.now x)

use Rattle.range_c.proofs.FromLeast.{member-drop}
use Rattle.range_c.proofs.from_least.above.Goals as goal

pub returns-clause-members : goal.returns-clause-members
returns-clause-members g c =
    rw c.split_at.ensures.back
    (member-drop g.met.T.Ord.total c.args.least.now c.args.items.now c.count_up_to-n.result c.count_up_to-n.ensures.within c.count_up_to-n.ensures.before)

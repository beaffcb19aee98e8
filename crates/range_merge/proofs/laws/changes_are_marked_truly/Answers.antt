use Rattle.range_merge.proofs.Marks.{IsMarkedTruly-changes}
use Rattle.range_merge.proofs.laws.changes_are_marked_truly.Goals as goal

pub returns : goal.returns
returns g c = record { marks = IsMarkedTruly-changes g.met.C.Compare.total }

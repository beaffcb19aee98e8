use Rattle.range_merge.proofs.Counts.{length-changes}
use Rattle.range_merge.proofs.laws.changes_are_at_most_the_lengths.Goals as goal

pub returns : goal.returns
returns g c = record { at_most = length-changes g.C.Compare.order }

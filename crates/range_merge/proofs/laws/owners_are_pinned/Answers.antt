use Rattle.range_merge.proofs.OwnersLemmas.{IsOwners-owners}
use Rattle.range_merge.proofs.OwnersUnique.{owners-unique}
use Rattle.range_merge.proofs.laws.owners_are_pinned.Goals as goal

pub returns-clause-pinned : goal.returns-clause-pinned
returns-clause-pinned g c = IsOwners-owners g.met.C.Compare.total

pub returns-clause-unique : goal.returns-clause-unique
returns-clause-unique g c = owners-unique g.met.C.Compare.total

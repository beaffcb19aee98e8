use Rattle.range_merge.specs.Owners.{IsOwners, owners}
use Rattle.range_merge.proofs.OwnersLemmas.{IsOwners-owners}
use Rattle.range_merge.proofs.ChangesLemmas.{Means-changes_opposite}
use Rattle.range_merge.proofs.laws.changes_mean_the_opposite.Goals as goal

pub returns : goal.returns
returns g c = record {
  means = λ f a b on p q.
      let order = g.C.Compare.order in
      let io : IsOwners order a b (owners order a b) = IsOwners-owners g.met.C.Compare.total a b p q in
      Means-changes_opposite g.met.C.Compare.total f a b on p q io;
}

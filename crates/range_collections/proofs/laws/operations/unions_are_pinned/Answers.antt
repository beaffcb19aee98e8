use Rattle.range_collections.proofs.Unions.{AreEqual-unions, IsUnionOf-two, IsUnionOf-append}
use Rattle.range_collections.proofs.laws.operations.unions_are_pinned.Goals as goal

pub returns : goal.returns
returns g c = record {
  pinned = AreEqual-unions g.met.T.Ord.total;
  of_two = IsUnionOf-two g.met.T.Ord.total;
  of_all = IsUnionOf-append g.met.T.Ord.total;
}

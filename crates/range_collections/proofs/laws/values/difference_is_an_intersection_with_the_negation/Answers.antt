use Rattle.range_collections.proofs.Values.{AreEqual-difference}
use Rattle.range_collections.proofs.laws.values.difference_is_an_intersection_with_the_negation.Goals as goal

pub returns : goal.returns
returns g c =
    AreEqual-difference g.met.T.Ord.total g.T.RangeSetEntry.is_value g.T.RangeSetEntry.least
    g.met.T.RangeSetEntry.least_is_value g.met.T.RangeSetEntry.least_is_least

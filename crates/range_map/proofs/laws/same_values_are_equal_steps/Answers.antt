use Rattle.range_map.proofs.Uniqueness.{AreEqualSteps-from_same, IsSameMap-from_equal}
use Rattle.range_map.proofs.laws.same_values_are_equal_steps.Goals as goal

pub returns : goal.returns
returns g c a b ca cb = (
  AreEqualSteps-from_same g.K.Ord.cmp g.met.K.Ord.total g.V.PartialEq.eq g.met.V.Eq.laws a b ca cb,
  IsSameMap-from_equal g.K.Ord.cmp g.met.K.Ord.total g.V.PartialEq.eq g.met.V.Eq.laws a b ca cb,
)

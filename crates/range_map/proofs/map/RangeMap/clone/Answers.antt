use Rattle.range_list.specs.Lists.{joined}
use Rattle.range_map.proofs.Compared.{IsCanonical-equal}
use Rattle.range_map.proofs.Pushed.{copied_keys, AreEqualSteps-copied}
use Rattle.range_map.proofs.Uniqueness.{IsSameMap-from_equal}
use Rattle.range_map.proofs.map.RangeMap.clone.Goals as goal

pub invariant_of-result : goal.invariant_of-result
invariant_of-result g c =
    IsCanonical-equal g.K.Ord.cmp g.met.K.Ord.total g.V.PartialEq.eq g.met.V.Eq.laws _ _ c.self.invariant
    (AreEqualSteps-copied g.K.EntryClone.is_copy g.V.PartialEq.eq g.K.Ord.cmp g.met.K.Ord.total g.met.K.EntryClone.copy_is_equal (joined c.self.inside.steps) (joined c.in_ok-steps.steps) c.in_ok-steps.ensures.copies)

pub returns-clause-keys : goal.returns-clause-keys
returns-clause-keys g c =
    rw (← c.self.view_is) (copied_keys g.K.EntryClone.is_copy g.V.PartialEq.eq (joined c.self.inside.steps) (joined c.in_ok-steps.steps) c.in_ok-steps.ensures.copies)

pub returns-clause-equal : goal.returns-clause-equal
returns-clause-equal g c =
    rw (← c.self.view_is)
    (AreEqualSteps-copied g.K.EntryClone.is_copy g.V.PartialEq.eq g.K.Ord.cmp g.met.K.Ord.total g.met.K.EntryClone.copy_is_equal (joined c.self.inside.steps) (joined c.in_ok-steps.steps) c.in_ok-steps.ensures.copies)

pub returns-clause-values : goal.returns-clause-values
returns-clause-values g c =
    rw (← c.self.view_is)
    (IsSameMap-from_equal g.K.Ord.cmp g.met.K.Ord.total g.V.PartialEq.eq g.met.V.Eq.laws _ _ c.self.invariant (invariant_of-result g c)
    (AreEqualSteps-copied g.K.EntryClone.is_copy g.V.PartialEq.eq g.K.Ord.cmp g.met.K.Ord.total g.met.K.EntryClone.copy_is_equal (joined c.self.inside.steps) (joined c.in_ok-steps.steps) c.in_ok-steps.ensures.copies))

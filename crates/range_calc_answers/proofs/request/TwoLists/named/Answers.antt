use Rattle.std.proofs.Common.{refl}
use Rattle.range_calc_answers.specs.Words.{two_lists}
use Rattle.range_calc_answers.proofs.Asked.{bytes_eq-false}
use Rattle.range_calc_answers.proofs.request.TwoLists.named.Goals as goal

pub returns-in-union : goal.returns-in-union
unfolding two_lists
returns-in-union c = rw c.in-union.is refl

pub returns-in-intersection : goal.returns-in-intersection
unfolding two_lists
returns-in-intersection c = rw c.in-intersection.is refl

pub returns-in-difference : goal.returns-in-difference
unfolding two_lists
returns-in-difference c = rw c.in-difference.is refl

pub returns-in-symmetric_difference : goal.returns-in-symmetric_difference
unfolding two_lists
returns-in-symmetric_difference c = rw c.in-symmetric_difference.is refl

pub returns-in-disjoint : goal.returns-in-disjoint
unfolding two_lists
returns-in-disjoint c = rw c.in-disjoint.is refl

pub returns-in-subset : goal.returns-in-subset
unfolding two_lists
returns-in-subset c = rw c.in-subset.is refl

pub returns-in-superset : goal.returns-in-superset
unfolding two_lists
returns-in-superset c = rw c.in-superset.is refl

pub returns-in_default : goal.returns-in_default
unfolding two_lists
returns-in_default c =
    rw (
      bytes_eq-false _ _ c.in_default.not-union,
      bytes_eq-false _ _ c.in_default.not-intersection,
      bytes_eq-false _ _ c.in_default.not-difference,
      bytes_eq-false _ _ c.in_default.not-symmetric_difference,
      bytes_eq-false _ _ c.in_default.not-disjoint,
      bytes_eq-false _ _ c.in_default.not-subset,
      bytes_eq-false _ _ c.in_default.not-superset,
    ) refl

use Rattle.range_merge.specs.Boundaries.{member}
use Rattle.range_collections.proofs.Sets.{true-either, true-both, true-first_alone, true-one_alone}
use Rattle.range_collections.proofs.laws.operations.operations_give_their_members.Goals as goal

pub returns-clause-sorted : goal.returns-clause-sorted
returns-clause-sorted g c = λ f room a b items h. h.means.sorted

pub returns-clause-union : goal.returns-clause-union
returns-clause-union g c = λ room a b items x h.
    let order = g.T.Ord.cmp in
    true-either (member order items x) (member order a x) (member order b x) (h.means.members x)

pub returns-clause-intersection : goal.returns-clause-intersection
returns-clause-intersection g c = λ room a b items x h.
    let order = g.T.Ord.cmp in
    true-both (member order items x) (member order a x) (member order b x) (h.means.members x)

pub returns-clause-difference : goal.returns-clause-difference
returns-clause-difference g c = λ room a b items x h.
    let order = g.T.Ord.cmp in
    true-first_alone (member order items x) (member order a x) (member order b x) (h.means.members x)

pub returns-clause-symmetric_difference : goal.returns-clause-symmetric_difference
returns-clause-symmetric_difference g c = λ room a b items x h.
    let order = g.T.Ord.cmp in
    true-one_alone (member order items x) (member order a x) (member order b x) (h.means.members x)

use Rattle.std.proofs.Common.{refl}
use Rattle.range_calc_answers.specs.Words.{of_two_lists}
use Rattle.range_calc_answers.specs.declared.request.TwoLists.TheVariants.{Union, Intersection, Difference, SymmetricDifference, Disjoint, Subset, Superset}
use Rattle.range_calc_answers.specs.Line.{list_text, truth_text}
use Rattle.range_calc_answers.proofs.Outcomes.{IsReplyText-line}
use Rattle.range_calc_answers.proofs.answering.two_sets_reply.Goals as goal

pub returns-in_ok-union-in-Union : goal.returns-in_ok-union-in-Union
returns-in_ok-union-in-Union c =
    let made = c.in_ok-union-in-Union in
    rw c.in-Union.is (IsReplyText-line c.set_line.result (of_two_lists Union c.args.left.now c.args.right.boundaries.now) (list_text made.field-0) (made.field-0, made.ensures.gives.means, refl) c.set_line.ensures)

pub returns-in_ok-intersection-in-Intersection : goal.returns-in_ok-intersection-in-Intersection
returns-in_ok-intersection-in-Intersection c =
    let made = c.in_ok-intersection-in-Intersection in
    rw c.in-Intersection.is (IsReplyText-line c.set_line-in-Intersection.result (of_two_lists Intersection c.args.left.now c.args.right.boundaries.now) (list_text made.field-0) (made.field-0, made.ensures.gives.means, refl) c.set_line-in-Intersection.ensures)

pub returns-in_ok-difference-in-Difference : goal.returns-in_ok-difference-in-Difference
returns-in_ok-difference-in-Difference c =
    let made = c.in_ok-difference-in-Difference in
    rw c.in-Difference.is (IsReplyText-line c.set_line-in-Difference.result (of_two_lists Difference c.args.left.now c.args.right.boundaries.now) (list_text made.field-0) (made.field-0, made.ensures.gives.means, refl) c.set_line-in-Difference.ensures)

pub returns-in_ok-symmetric_difference-in-SymmetricDifference : goal.returns-in_ok-symmetric_difference-in-SymmetricDifference
returns-in_ok-symmetric_difference-in-SymmetricDifference c =
    let made = c.in_ok-symmetric_difference-in-SymmetricDifference in
    rw c.in-SymmetricDifference.is (IsReplyText-line c.set_line-in-SymmetricDifference.result (of_two_lists SymmetricDifference c.args.left.now c.args.right.boundaries.now) (list_text made.field-0) (made.field-0, made.ensures.gives.means, refl) c.set_line-in-SymmetricDifference.ensures)

pub returns-in-Disjoint : goal.returns-in-Disjoint
returns-in-Disjoint c =
    let truth = c.is_disjoint.result in
    rw c.in-Disjoint.is (IsReplyText-line c.truth_line.result (of_two_lists Disjoint c.args.left.now c.args.right.boundaries.now) (truth_text truth) (truth, c.is_disjoint.ensures, refl) c.truth_line.ensures)

pub returns-in-Subset : goal.returns-in-Subset
returns-in-Subset c =
    let truth = c.is_subset.result in
    rw c.in-Subset.is (IsReplyText-line c.truth_line-in-Subset.result (of_two_lists Subset c.args.left.now c.args.right.boundaries.now) (truth_text truth) (truth, c.is_subset.ensures, refl) c.truth_line-in-Subset.ensures)

pub returns-in-Superset : goal.returns-in-Superset
returns-in-Superset c =
    let truth = c.is_superset.result in
    rw c.in-Superset.is (IsReplyText-line c.truth_line-in-Superset.result (of_two_lists Superset c.args.left.now c.args.right.boundaries.now) (truth_text truth) (truth, c.is_superset.ensures, refl) c.truth_line-in-Superset.ensures)

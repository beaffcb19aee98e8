use Rattle.std.proofs.Common.{◌∷◌, ◌++◌, refl, ap}
use Rattle.std.specs.Int.{w64}
use Rattle.std.proofs.lemmas.Int.{to_z-of_z}
use Rattle.range_calc_answers.specs.Words.{of_list_and_number}
use Rattle.range_calc_answers.specs.declared.request.ListAndNumber.TheVariants.{Contains, Split}
use Rattle.range_calc_answers.specs.Line.{list_text, truth_text}
use Rattle.range_calc_answers.proofs.Outcomes.{IsReplyText-line}
use Rattle.range_calc_answers.proofs.answering.set_and_number_reply.Goals as goal

pub returns-in-Contains : goal.returns-in-Contains
returns-in-Contains c =
    let truth = rw (to_z-of_z w64 c.args.n c.ranges.n) at c.contains.ensures in
    rw c.in-Contains.is (IsReplyText-line c.truth_line.result (of_list_and_number Contains c.args.set.now c.args.n) (truth_text c.contains.result) (ap truth_text truth) c.truth_line.ensures)

pub returns-in-Split : goal.returns-in-Split
returns-in-Split c =
    let left = c.boundaries.result.now in
    let right = c.boundaries-in-Split.result.now in
    rw c.in-Split.is
    (IsReplyText-line c.parts_line.result (of_list_and_number Split c.args.set.now c.args.n) (list_text left ++ 32 ∷ list_text right)
    (rw (c.boundaries.ensures.same, c.boundaries-in-Split.ensures.same, c.split.ensures.left, c.split.ensures.right, to_z-of_z w64 c.args.n c.ranges.n) refl) c.parts_line.ensures)

use Rattle.range_calc_answers.proofs.answering.truth_line.Goals.{then-truth, else-truth}
use Rattle.range_calc_answers.proofs.answering.truth_line.Goals as goal

pub returns : goal.returns
returns c = elim c.if-truth.branch [
  | then-truth w ↦ rw w.if-truth.true (rw w.from_str-is at c.from_str.ensures.ok)
  | else-truth w ↦ rw w.if-truth.false (rw w.from_str-is at c.from_str.ensures.ok)
]

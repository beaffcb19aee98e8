use Rattle.std.proofs.Common.{refl}
use Rattle.range_calc_answers.proofs.answering.set_line.Goals as goal

pub returns : goal.returns
unfolding lib.Utf8.encode
returns c = rw (c.in_ok-push.ensures.bytes, c.in_ok-push_list.ensures, c.new-line.ensures.bytes, c.boundaries.ensures.same) refl

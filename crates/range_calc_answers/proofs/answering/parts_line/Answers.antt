use Rattle.std.proofs.Common.{[], ◌∷◌, ◌++◌, ap, append_assoc}
use Rattle.range_calc_answers.specs.Line.{list_text}
use Rattle.range_calc_answers.proofs.answering.parts_line.Goals as goal

pub returns : goal.returns
unfolding lib.Utf8.encode
returns c =
    rw (c.in_ok-push-2.ensures.bytes, c.in_ok-push_list-2.ensures, c.in_ok-push.ensures.bytes, c.in_ok-push_list.ensures, c.new-line.ensures.bytes)
    (ap (λ bytes. bytes ++ 10 ∷ []) (append_assoc (list_text c.args.left.now) (32 ∷ []) (list_text c.args.right.now)))

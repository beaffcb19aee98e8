use Rattle.std.proofs.Common.{sym, ◌∙◌, [], ◌∷◌, ◌++◌, length}
use Rattle.std.proofs.lemmas.Bool.{eqb-true}
use Rattle.std.proofs.lemmas.List.{append-nil, nil_from_length}
use Rattle.std.proofs.lemmas.Result.{on_ok_weaker}
use Rattle.range_track_answers.specs.Answers.{answer_text}
use Rattle.range_track_answers.specs.Lines.{lines_of}
use Rattle.range_track_answers.proofs.LinesLemmas.{lines_of-one}
use Rattle.range_track_answers.proofs.Written.{Appends-nothing}
use Rattle.range_track_answers.proofs.answering.answer_last.Goals as goal

pub returns-then-is_empty : goal.returns-then-is_empty
unfolding lines_of
returns-then-is_empty g c =
    let none = nil_from_length c.args.line.now (eqb-true (length c.args.line.now) 0 (sym c.is_empty.ensures ∙ c.if-is_empty.true)) in
    rw none ([], tt, Appends-nothing (g.W.Write.contents c.args.out.now))

pub returns-else-is_empty : goal.returns-else-is_empty
returns-else-is_empty g c =
    rw (lines_of-one c.args.line.now (sym c.is_empty.ensures ∙ c.if-is_empty.false) c.requires) (on_ok_weaker c.answer.result
    (λ answered. (answered.answer ∷ [], (answered.may, tt), rw (append-nil (answer_text answered.answer ++ 10 ∷ [])) answered.written))
    c.answer.ensures.answered)

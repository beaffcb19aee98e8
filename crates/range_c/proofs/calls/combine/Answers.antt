use Rattle.std.proofs.Common.{◌≡◌, sym, ◌∙◌, false, length, rules}
use Rattle.std.proofs.lemmas.Bool.{eqb-true}
use Rattle.range_c.specs.Answers.{connective_of}
use Rattle.range_c.proofs.Meant.{AnswersList-counted}
use Rattle.range_c.proofs.calls.combine.Goals as goal

pub returns-then-is_empty : goal.returns-then-is_empty
returns-then-is_empty g c =
    let off : connective_of c.args.connective false false ≡ false = search rules in
    AnswersList-counted g.met.T.Ord.total (connective_of c.args.connective) c.args.a.now c.args.b.now c.args.out.now c.combined_len.result off c.requires.sorted
    (eqb-true (length c.args.out.now) 0 (sym c.is_empty.ensures ∙ c.if-is_empty.true)) c.combined_len.ensures

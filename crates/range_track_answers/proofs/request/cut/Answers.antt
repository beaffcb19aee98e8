use Rattle.std.proofs.Common.{Some, None, lit<}
use Rattle.std.specs.Prelude.{◌==◌}
use Rattle.std.proofs.lemmas.List.Splits.{slice_split_first}
use Rattle.std.proofs.lemmas.Str.Pattern.{split_once_first}
use Rattle.range_track_answers.proofs.Words.{words_of-no_blank}
use Rattle.range_track_answers.proofs.request.cut.Goals as goal

pub returns-in-Some : goal.returns-in-Some
returns-in-Some c =
    let cuts = split_once_first 32 c.args.text.now (Some (c.in-Some.word, c.in-Some.rest)) c.in-Some.ensures.cases (lit< tt) in
    rw (cuts.1, cuts.2) (slice_split_first (λ b. b == 32) c.args.text.now 0 cuts.0)

pub returns-in-None : goal.returns-in-None
returns-in-None c = words_of-no_blank c.args.text.now (split_once_first 32 c.args.text.now None c.in-None.ensures.cases (lit< tt))

use Rattle.std.proofs.Common.{◌≡◌, ◌++◌, ◌∷◌, [], ap, ◌∙◌, string_bytes}
use Rattle.serde_json.specs.View.{view}
use Rattle.range_collections.specs.Json.{array_of}
use Rattle.range_calc_answers.specs.Line.{array_text}
use Rattle.range_calc_answers.proofs.Arrays.{has_float-array_of, compact_text-array_of}
use Rattle.range_calc_answers.proofs.answering.array_line.Goals as goal

pub returns : goal.returns
unfolding lib.Utf8.encode
returns c =
    let is : view c.in_ok-to_json.field-0 ≡ array_of c.args.set.now = c.in_ok-to_json.ensures in
    let text : string_bytes c.in_ok-line.line ≡ array_text c.args.set.now =
    rw is at c.in_ok-line.ensures.text (has_float-array_of c.args.set.now) ∙ compact_text-array_of c.args.set.now in
    c.in_ok-push.ensures.bytes ∙ ap (λ bytes. bytes ++ 10 ∷ []) text

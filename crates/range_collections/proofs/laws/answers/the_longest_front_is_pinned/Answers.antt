use Rattle.std.proofs.Common.{◌++◌}
use Rattle.std.proofs.Math.Seq.{take-append_seam}
use Rattle.std.proofs.lemmas.Str.{IsUtf8-append}
use Rattle.range_collections.proofs.laws.answers.the_longest_front_is_pinned.Goals as goal

pub returns-clause-begins : goal.returns-clause-begins
returns-clause-begins c = λ front begins. (
  begins.is_text,
  (front ++ begins.rest, take-append_seam front begins.rest, IsUtf8-append front begins.rest begins.is_text begins.rest_is_text, begins.are_ranges),
)

use Rattle.std.proofs.Common.{ap, pos}
use Rattle.std.specs.Prelude.{unsigned_abs}
use Rattle.range_collections.proofs.NextMultiple.{IsMultiple-from_0, IsMultiple-below_0}
use Rattle.range_collections.proofs.laws.members.aligned_numbers_are_multiples.Goals as goal

pub returns-clause-from_0 : goal.returns-clause-from_0
returns-clause-from_0 c half align a some =
    let it = IsMultiple-from_0 half align a some in
    (λ one. ap pos (it.0 one), λ none. it.1 (ap unsigned_abs none))

pub returns-clause-below_0 : goal.returns-clause-below_0
returns-clause-below_0 c half align a some less =
    let it = IsMultiple-below_0 half align a some less in
    (λ one. ap pos (it.0 one), λ none. it.1 (ap unsigned_abs none))

use Rattle.std.proofs.Common.{ap, not}
use Rattle.std.proofs.lemmas.Bool.{not-false}
use Rattle.range_chunks.proofs.set.ChunkedRangeSet.insert_changed.Goals as goal

pub returns-clause-answer : goal.returns-clause-answer
returns-clause-answer g c =
    let all = c.has_all-all.ensures.members in
    rw (← c.self.view_is) (λ none_new. all.0 (not-false c.has_all-all.result none_new), λ each. ap not (all.1 each))

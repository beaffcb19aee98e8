use Rattle.std.proofs.lemmas.Result.{on_ok_weaker}
use Rattle.range_chunks.proofs.set.ChunkedRangeSet.symmetric_difference_with.Goals as goal

pub returns-clause-members : goal.returns-clause-members
returns-clause-members g c = on_ok_weaker c.merge_with.result (λ h x. h.members x (λ _. tt)) c.merge_with.ensures.result

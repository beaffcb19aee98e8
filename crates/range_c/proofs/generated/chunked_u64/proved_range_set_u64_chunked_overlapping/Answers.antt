use Rattle.range_c.proofs.generated.chunked_u64.proved_range_set_u64_chunked_overlapping.Goals as goal

pub returns-clause-copies : goal.returns-clause-copies
returns-clause-copies c = rw (c.as_set.ensures, c.deref.ensures, c.take-taken.ensures.held) at c.overlapping-answer.ensures

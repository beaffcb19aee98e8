use Rattle.range_c.proofs.generated.chunked_u32.proved_range_set_u32_chunked_first_fit.Goals as goal

pub returns-clause-least : goal.returns-clause-least
returns-clause-least c was n row = c.first_fit-answer.ensures.least was n (rw (c.from.ensures, c.deref_mut.ensures.value, c.take-taken.ensures.held) row)

pub returns-clause-none : goal.returns-clause-none
returns-clause-none c was n row = c.first_fit-answer.ensures.none was n (rw (c.from.ensures, c.deref_mut.ensures.value, c.take-taken.ensures.held) row)

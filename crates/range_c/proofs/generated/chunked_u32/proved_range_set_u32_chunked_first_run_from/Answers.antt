use Rattle.range_c.proofs.generated.chunked_u32.proved_range_set_u32_chunked_first_run_from.Goals as goal

pub returns-clause-least : goal.returns-clause-least
returns-clause-least c was n row = c.first_run-answer.ensures.least was n (rw (c.from.ensures, c.as_set.ensures, c.deref.ensures, c.take-taken.ensures.held) row)

pub returns-clause-none : goal.returns-clause-none
returns-clause-none c was n row = c.first_run-answer.ensures.none was n (rw (c.from.ensures, c.as_set.ensures, c.deref.ensures, c.take-taken.ensures.held) row)

use Rattle.range_c.proofs.generated.sets_u32.proved_range_set_u32_first_run_from.Goals as goal

pub returns-clause-least : goal.returns-clause-least
returns-clause-least c was n row = c.first_run.ensures.least was n (rw (c.from.ensures) row)

pub returns-clause-none : goal.returns-clause-none
returns-clause-none c was n row = c.first_run.ensures.none was n (rw (c.from.ensures) row)

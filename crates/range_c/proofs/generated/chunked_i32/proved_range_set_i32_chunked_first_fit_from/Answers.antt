use Rattle.std.proofs.lemmas.Int.{to_z-of_z}
use Rattle.range_c.proofs.generated.chunked_i32.proved_range_set_i32_chunked_first_fit_from.Goals as goal

pub returns-clause-least : goal.returns-clause-least
returns-clause-least c was n row =
    c.first_fit-answer.ensures.least was n (rw (c.from.ensures, c.deref_mut.ensures.value, c.take-taken.ensures.held) (simp (to_z-of_z, c.ranges.start) row))

pub returns-clause-none : goal.returns-clause-none
returns-clause-none c was n row =
    c.first_fit-answer.ensures.none was n (rw (c.from.ensures, c.deref_mut.ensures.value, c.take-taken.ensures.held) (simp (to_z-of_z, c.ranges.start) row))

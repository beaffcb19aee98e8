use Rattle.std.proofs.lemmas.Int.{to_z-of_z}
use Rattle.range_c.proofs.generated.sets_i64.proved_range_set_i64_first_fit_from.Goals as goal

pub returns-clause-least : goal.returns-clause-least
returns-clause-least c was n row =
    c.first_fit_count.ensures.least was n (rw (c.from.ensures) (simp (to_z-of_z, c.ranges.start) row))

pub returns-clause-none : goal.returns-clause-none
returns-clause-none c was n row =
    c.first_fit_count.ensures.none was n (rw (c.from.ensures) (simp (to_z-of_z, c.ranges.start) row))

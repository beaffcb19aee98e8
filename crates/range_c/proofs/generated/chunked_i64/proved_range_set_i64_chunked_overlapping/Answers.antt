use Rattle.std.proofs.lemmas.Int.{to_z-of_z}
use Rattle.range_c.proofs.generated.chunked_i64.proved_range_set_i64_chunked_overlapping.Goals as goal

pub returns-clause-copies : goal.returns-clause-copies
returns-clause-copies c =
    simp (to_z-of_z, c.ranges.start, c.ranges.end) at (rw (c.as_set.ensures, c.deref.ensures, c.take-taken.ensures.held) at c.overlapping-answer.ensures)

use Rattle.std.proofs.Common.{refl}
use Rattle.range_chunks.proofs.set.ChunkedRangeSet.first_fit_count_unchanged.Goals as goal

pub returns-clause-fits : goal.returns-clause-fits
returns-clause-fits g c = rw (← c.self.view_is, ← c.ends-range.ensures.start, ← c.ends-range.ensures.end) (c.first_alike.ensures.fits)

pub returns-clause-least : goal.returns-clause-least
returns-clause-least g c = rw (← c.self.view_is, ← c.ends-range.ensures.start, ← c.ends-range.ensures.end) (c.first_alike.ensures.least)

pub returns-clause-none : goal.returns-clause-none
returns-clause-none g c = rw (← c.self.view_is, ← c.ends-range.ensures.start, ← c.ends-range.ensures.end) (c.first_alike.ensures.none)

pub returns-clause-first : goal.returns-clause-first
returns-clause-first g c s e is some = rw (← c.self.view_is) (c.first_alike.ensures.first refl s e (c.ends-range.ensures.from_to s e is) some)

pub returns-clause-nothing : goal.returns-clause-nothing
returns-clause-nothing g c s e is zero = c.first_alike.ensures.nothing s e (c.ends-range.ensures.from_to s e is) zero

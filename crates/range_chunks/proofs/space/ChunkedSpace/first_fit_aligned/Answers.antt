use Rattle.range_chunks.proofs.space.ChunkedSpace.first_fit_aligned.Goals as goal

pub returns-clause-fits : goal.returns-clause-fits
returns-clause-fits g c = rw (← c.ends-range.ensures.start, ← c.ends-range.ensures.end) (c.first_aligned_free.ensures.fits)

pub returns-clause-least : goal.returns-clause-least
returns-clause-least g c = rw (← c.ends-range.ensures.start, ← c.ends-range.ensures.end) (c.first_aligned_free.ensures.least)

pub returns-clause-none : goal.returns-clause-none
returns-clause-none g c = rw (← c.ends-range.ensures.start, ← c.ends-range.ensures.end) (c.first_aligned_free.ensures.none)

use Rattle.range_chunks.proofs.set.ChunkedRangeSet.first_fit_aligned.Goals as goal

pub returns-clause-fits : goal.returns-clause-fits
returns-clause-fits g c = rw (← c.self.view_is, ← c.ends-range.ensures.start, ← c.ends-range.ensures.end) (c.first_aligned.ensures.fits)

pub returns-clause-least : goal.returns-clause-least
returns-clause-least g c = rw (← c.self.view_is, ← c.ends-range.ensures.start, ← c.ends-range.ensures.end) (c.first_aligned.ensures.least)

pub returns-clause-none : goal.returns-clause-none
returns-clause-none g c = rw (← c.self.view_is, ← c.ends-range.ensures.start, ← c.ends-range.ensures.end) (c.first_aligned.ensures.none)

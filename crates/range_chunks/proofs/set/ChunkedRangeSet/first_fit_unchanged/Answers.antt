use Rattle.range_chunks.proofs.set.ChunkedRangeSet.first_fit_unchanged.Goals as goal

pub returns-clause-fits : goal.returns-clause-fits
returns-clause-fits g c = rw (← c.self.view_is, ← c.ends-range.ensures.start, ← c.ends-range.ensures.end) (c.first_gap_of.ensures.fits)

pub returns-clause-free : goal.returns-clause-free
returns-clause-free g c = rw (← c.self.view_is) (c.first_gap_of.ensures.free)

pub returns-clause-least : goal.returns-clause-least
returns-clause-least g c = rw (← c.self.view_is, ← c.ends-range.ensures.start, ← c.ends-range.ensures.end) (c.first_gap_of.ensures.least)

pub returns-clause-none : goal.returns-clause-none
returns-clause-none g c = rw (← c.self.view_is, ← c.ends-range.ensures.start, ← c.ends-range.ensures.end) (c.first_gap_of.ensures.none)

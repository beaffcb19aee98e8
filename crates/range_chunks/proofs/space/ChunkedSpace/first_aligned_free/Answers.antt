use Rattle.range_chunks.proofs.space.ChunkedSpace.first_aligned_free.Goals as goal

pub returns-then-count-eq0-clause-fits : goal.returns-then-count-eq0-clause-fits
returns-then-count-eq0-clause-fits g c = rw (← c.self.view_is, ← c.boundaries.ensures.items, c.if-count-eq0.true) (c.first_aligned.ensures.fits)

pub returns-then-count-eq0-clause-least : goal.returns-then-count-eq0-clause-least
returns-then-count-eq0-clause-least g c = rw (← c.self.view_is, ← c.boundaries.ensures.items, c.if-count-eq0.true) (c.first_aligned.ensures.least)

pub returns-then-count-eq0-clause-none : goal.returns-then-count-eq0-clause-none
returns-then-count-eq0-clause-none g c = rw (← c.self.view_is, ← c.boundaries.ensures.items, c.if-count-eq0.true) (c.first_aligned.ensures.none)

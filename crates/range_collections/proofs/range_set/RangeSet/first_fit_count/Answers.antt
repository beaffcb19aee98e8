use Rattle.range_collections.proofs.range_set.RangeSet.first_fit_count.Goals as goal

pub returns-clause-least : goal.returns-clause-least
returns-clause-least g c = rw (← c.as_ref.ensures.same) (c.first_fit_count.ensures.least)

pub returns-clause-none : goal.returns-clause-none
returns-clause-none g c = rw (← c.as_ref.ensures.same) (c.first_fit_count.ensures.none)

pub returns-clause-first : goal.returns-clause-first
returns-clause-first g c s e is some = rw (← c.as_ref.ensures.same) (c.first_fit_count.ensures.first s e is some)

pub returns-clause-nothing : goal.returns-clause-nothing
returns-clause-nothing g c s e is zero = c.first_fit_count.ensures.nothing s e is zero

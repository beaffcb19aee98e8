use Rattle.range_collections.proofs.range_set.RangeSet.first_run.Goals as goal

pub returns-clause-least : goal.returns-clause-least
returns-clause-least g c = rw (← c.as_ref.ensures.same) (c.first_run.ensures.least)

pub returns-clause-none : goal.returns-clause-none
returns-clause-none g c = rw (← c.as_ref.ensures.same) (c.first_run.ensures.none)

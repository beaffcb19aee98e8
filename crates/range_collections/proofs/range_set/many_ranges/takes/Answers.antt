use Rattle.range_collections.proofs.range_set.many_ranges.takes.Goals as goal

pub returns-clause-in_order : goal.returns-clause-in_order
returns-clause-in_order g c far = rw (c.boundaries-items.ensures.same, c.start_of.ensures) at c.none_starts_above.ensures

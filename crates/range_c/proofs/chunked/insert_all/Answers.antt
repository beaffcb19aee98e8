use Rattle.range_c.proofs.chunked.insert_all.Goals as goal

pub returns-clause-means : goal.returns-clause-means
returns-clause-means g c = rw (← c.is_done.ensures) (rw c.new_unchecked.ensures at c.insert_all.ensures.means)

pub returns-clause-unchanged : goal.returns-clause-unchanged
returns-clause-unchanged g c = rw (← c.is_done.ensures) c.insert_all.ensures.unchanged

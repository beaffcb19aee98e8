use Rattle.range_c.proofs.chunked.insert_from.Goals as goal

pub returns : goal.returns
returns g c = rw (← c.is_done.ensures) c.insert_from.ensures.changed

use Rattle.range_c.proofs.chunked.remove_from.Goals as goal

pub returns : goal.returns
returns g c = rw (← c.is_done.ensures) c.remove_from.ensures.changed

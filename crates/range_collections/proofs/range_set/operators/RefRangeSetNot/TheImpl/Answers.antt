use Rattle.range_collections.proofs.range_set.operators.RefRangeSetNot.TheImpl.Goals as goal

pub not-tells : goal.not-tells
not-tells g c = (c.ensures.gives, c.ensures.headline)

use Rattle.range_collections.proofs.range_set.operators.RefRangeSetBitAnd.TheImpl.Goals as goal

pub bitand-tells : goal.bitand-tells
bitand-tells g c = (c.ensures.gives, c.ensures.headline)

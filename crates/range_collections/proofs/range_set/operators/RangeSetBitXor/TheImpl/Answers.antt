use Rattle.range_collections.proofs.range_set.operators.RangeSetBitXor.TheImpl.Goals as goal

pub bitxor-tells : goal.bitxor-tells
bitxor-tells g c = (c.ensures.gives, c.ensures.headline)

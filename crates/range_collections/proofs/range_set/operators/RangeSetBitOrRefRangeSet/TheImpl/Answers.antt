use Rattle.range_collections.proofs.range_set.operators.RangeSetBitOrRefRangeSet.TheImpl.Goals as goal

pub bitor-tells : goal.bitor-tells
bitor-tells g c = (c.ensures.gives, c.ensures.headline)

use Rattle.range_collections.proofs.range_set.operators.RefRangeSetSub.TheImpl.Goals as goal

pub sub-tells : goal.sub-tells
sub-tells g c = (c.ensures.gives, c.ensures.headline)

use Rattle.std.proofs.Common.{refl}
use Rattle.range_merge.proofs.slice_iterator.SliceIterator.new.Goals as goal

pub returns : goal.returns
returns g c = refl

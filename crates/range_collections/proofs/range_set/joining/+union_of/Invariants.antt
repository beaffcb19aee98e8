use Rattle.std.proofs.Common.{length}
use Rattle.range_collections.proofs.range_set.joining.+union_of.Given as goal

abbrev pub decreases-union_of : goal.decreases-union_of
decreases-union_of g l = length l.sets.now

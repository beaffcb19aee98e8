use Rattle.std.proofs.Common.{length}
use Rattle.range_chunks.proofs.set.many_sets.+merged_all.Given as goal

abbrev pub decreases-merged_all : goal.decreases-merged_all
decreases-merged_all g l = length l.sets.now

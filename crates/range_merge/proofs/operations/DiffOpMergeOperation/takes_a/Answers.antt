use Rattle.std.proofs.Common.{refl}
use Rattle.range_merge.proofs.operations.DiffOpMergeOperation.takes_a.Goals as goal

pub returns : goal.returns
returns c = refl

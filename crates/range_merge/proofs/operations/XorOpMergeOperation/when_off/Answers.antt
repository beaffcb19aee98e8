use Rattle.std.proofs.Common.{refl}
use Rattle.range_merge.proofs.operations.XorOpMergeOperation.when_off.Goals as goal

pub returns : goal.returns
returns c = refl

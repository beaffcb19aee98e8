use Rattle.std.proofs.Common.{◌≡◌, Bool, true, false, not, refl}
use Rattle.range_merge.specs.Connective.{differ, symmetric_difference_table}
use Rattle.range_merge.proofs.operations.XorOpMergeOperation.takes_both.Goals as goal

changes : (ac bc : Bool) → false ≡ differ (symmetric_difference_table ac bc) (symmetric_difference_table (not ac) (not bc))
changes true true = refl
changes true false = refl
changes false true = refl
changes false false = refl

pub returns : goal.returns
returns c = changes c.args._ac c.args._bc

use Rattle.std.proofs.Common.{◌≡◌, Bool, true, false, refl}
use Rattle.range_merge.specs.Connective.{differ, symmetric_difference_table}
use Rattle.range_merge.proofs.operations.XorOpMergeOperation.takes_b.Goals as goal

changes : (ac : Bool) → true ≡ differ (symmetric_difference_table ac false) (symmetric_difference_table ac true)
changes true = refl
changes false = refl

pub returns : goal.returns
returns c = changes c.args._ac

use Rattle.std.proofs.Common.{◌≡◌, Bool, true, false, refl}
use Rattle.range_merge.specs.Connective.{differ, symmetric_difference_table}
use Rattle.range_merge.proofs.operations.XorOpMergeOperation.takes_a.Goals as goal

changes : (bc : Bool) → true ≡ differ (symmetric_difference_table false bc) (symmetric_difference_table true bc)
changes true = refl
changes false = refl

pub returns : goal.returns
returns c = changes c.args._bc

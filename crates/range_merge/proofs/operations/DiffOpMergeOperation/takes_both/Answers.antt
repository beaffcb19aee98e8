use Rattle.std.proofs.Common.{◌≡◌, Bool, true, false, not, refl}
use Rattle.std.specs.Bool.{beq}
use Rattle.range_merge.specs.Connective.{differ, difference_table}
use Rattle.range_merge.proofs.operations.DiffOpMergeOperation.takes_both.Goals as goal

changes : (ac bc : Bool) → not (beq ac bc) ≡ differ (difference_table ac bc) (difference_table (not ac) (not bc))
changes true true = refl
changes true false = refl
changes false true = refl
changes false false = refl

pub returns : goal.returns
returns c = changes c.args.ac c.args.bc

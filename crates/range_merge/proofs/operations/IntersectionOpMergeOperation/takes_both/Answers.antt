use Rattle.std.proofs.Common.{◌≡◌, Bool, true, false, not, refl}
use Rattle.std.specs.Bool.{beq}
use Rattle.range_merge.specs.Connective.{differ, intersection_table}
use Rattle.range_merge.proofs.operations.IntersectionOpMergeOperation.takes_both.Goals as goal

changes : (ac bc : Bool) → beq ac bc ≡ differ (intersection_table ac bc) (intersection_table (not ac) (not bc))
changes true true = refl
changes true false = refl
changes false true = refl
changes false false = refl

pub returns : goal.returns
returns c = changes c.args.ac c.args.bc

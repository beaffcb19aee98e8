use Rattle.std.proofs.Common.{◌≡◌, Bool, true, false, not, refl}
use Rattle.std.specs.Bool.{beq}
use Rattle.range_merge.specs.Connective.{differ, union_table}
use Rattle.range_merge.proofs.operations.UnionOpMergeOperation.takes_both.Goals as goal

changes : (ac bc : Bool) → beq ac bc ≡ differ (union_table ac bc) (union_table (not ac) (not bc))
changes true true = refl
changes true false = refl
changes false true = refl
changes false false = refl

pub returns : goal.returns
returns c = changes c.args.ac c.args.bc

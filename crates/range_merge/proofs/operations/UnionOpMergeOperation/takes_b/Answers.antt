use Rattle.std.proofs.Common.{◌≡◌, Bool, true, false, not, refl}
use Rattle.range_merge.specs.Connective.{differ, union_table}
use Rattle.range_merge.proofs.operations.UnionOpMergeOperation.takes_b.Goals as goal

changes : (ac : Bool) → not ac ≡ differ (union_table ac false) (union_table ac true)
changes true = refl
changes false = refl

pub returns : goal.returns
returns c = changes c.args.ac

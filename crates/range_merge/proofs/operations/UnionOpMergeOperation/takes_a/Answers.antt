use Rattle.std.proofs.Common.{◌≡◌, Bool, true, false, not, refl}
use Rattle.range_merge.specs.Connective.{differ, union_table}
use Rattle.range_merge.proofs.operations.UnionOpMergeOperation.takes_a.Goals as goal

changes : (bc : Bool) → not bc ≡ differ (union_table false bc) (union_table true bc)
changes true = refl
changes false = refl

pub returns : goal.returns
returns c = changes c.args.bc

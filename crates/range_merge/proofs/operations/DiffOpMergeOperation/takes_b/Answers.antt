use Rattle.std.proofs.Common.{◌≡◌, Bool, true, false, refl}
use Rattle.range_merge.specs.Connective.{differ, difference_table}
use Rattle.range_merge.proofs.operations.DiffOpMergeOperation.takes_b.Goals as goal

changes : (ac : Bool) → ac ≡ differ (difference_table ac false) (difference_table ac true)
changes true = refl
changes false = refl

pub returns : goal.returns
returns c = changes c.args.ac

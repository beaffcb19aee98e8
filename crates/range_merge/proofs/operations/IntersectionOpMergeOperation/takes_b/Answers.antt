use Rattle.std.proofs.Common.{◌≡◌, Bool, true, false, refl}
use Rattle.range_merge.specs.Connective.{differ, intersection_table}
use Rattle.range_merge.proofs.operations.IntersectionOpMergeOperation.takes_b.Goals as goal

changes : (ac : Bool) → ac ≡ differ (intersection_table ac false) (intersection_table ac true)
changes true = refl
changes false = refl

pub returns : goal.returns
returns c = changes c.args.ac

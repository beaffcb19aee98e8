use Rattle.std.proofs.Common.{refl}
use Rattle.range_merge.proofs.merge_state.over_slices.SliceMergeState.over.Goals as goal

pub returns-clause-left : goal.returns-clause-left
returns-clause-left g c = c.new.ensures

pub returns-clause-right : goal.returns-clause-right
returns-clause-right g c = c.new-2.ensures

pub returns-clause-left_on : goal.returns-clause-left_on
returns-clause-left_on g c = refl

pub returns-clause-right_on : goal.returns-clause-right_on
returns-clause-right_on g c = refl

pub returns-clause-taken : goal.returns-clause-taken
returns-clause-taken g c = refl

pub returns-clause-fixed : goal.returns-clause-fixed
returns-clause-fixed g c = refl

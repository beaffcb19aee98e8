use Rattle.range_merge.proofs.merge_state.bool_op.BoolOpMergeState+K.new.Goals as goal

pub returns-clause-left : goal.returns-clause-left
returns-clause-left g c = c.over.ensures.left

pub returns-clause-right : goal.returns-clause-right
returns-clause-right g c = c.over.ensures.right

pub returns-clause-left_on : goal.returns-clause-left_on
returns-clause-left_on g c = c.over.ensures.left_on

pub returns-clause-right_on : goal.returns-clause-right_on
returns-clause-right_on g c = c.over.ensures.right_on

pub returns-clause-taken : goal.returns-clause-taken
returns-clause-taken g c = c.over.ensures.taken

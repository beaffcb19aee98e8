use Rattle.std.proofs.Common.{◌∙◌}
use Rattle.range_merge.proofs.Testing.{taken-any_item}
use Rattle.range_merge.proofs.merge_state.bool_op.BoolOpMergeState+K.merge.Goals as goal

pub returns-clause-value : goal.returns-clause-value
returns-clause-value g c =
    let merged = rw (c.new-state.ensures.left, c.new-state.ensures.right) at c.merge.ensures in
    c.result.ensures
    ∙ taken-any_item c.merge.result c.new-state.result.taken c.merge.new.state.taken _ _ (merged.succeeds (tt, λ _ _ _. tt, λ _ _ _. tt)) c.new-state.ensures.taken merged.taken merged.stopped

use Rattle.std.proofs.Common.{◌≡◌, length, ◌∙◌}
use Rattle.range_merge.proofs.TakenInPlace.{whole-output}
use Rattle.range_merge.proofs.merge_state.count.CountMergeState+K.merge.Goals as goal

pub returns-clause-value : goal.returns-clause-value
returns-clause-value g c =
    let merged = rw (c.new-state.ensures.left, c.new-state.ensures.right) at c.merge_reading.ensures in
    let never_refused = merged.succeeds (tt, λ _ _ _. tt, λ _ _ _. tt) in
    c.result.ensures
    ∙ whole-output c.merge_reading.result (λ ts. c.new-state.result.taken ≡ length ts) (λ ts. c.merge_reading.new.state.taken ≡ length ts) _ _ never_refused merged.taken merged.stopped c.new-state.ensures.taken

pub returns-clause-comparisons : goal.returns-clause-comparisons
returns-clause-comparisons g c =
    let merged = rw (c.new-state.ensures.left, c.new-state.ensures.right) at c.merge_reading.ensures in
    merged.comparisons

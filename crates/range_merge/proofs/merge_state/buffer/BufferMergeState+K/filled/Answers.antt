use Rattle.std.proofs.Common.{◌≡◌, map, sym, ap, ◌∙◌}
use Rattle.range_merge.specs.Changes.{changes, from_left}
use Rattle.range_merge.specs.Buffers.{IsFilled}
use Rattle.range_merge.proofs.Filled.{IsFilled-none, whole-output_after}
use Rattle.range_merge.proofs.merge_state.buffer.BufferMergeState+K.filled.Goals as goal

pub returns-in-Some-clause-borrowed : goal.returns-in-Some-clause-borrowed
returns-in-Some-clause-borrowed g c =
    let new_state = c.new-state.result in
    let merged = rw (c.new-state.ensures.left, c.new-state.ensures.right) at c.merge_reading.ensures in
    let ts = changes g.C.Compare.order (g.O.MergeOperation.connective c.args.op.now) c.args.a.now c.args.b.now in
    let filled = whole-output_after c.merge_reading.result
    (λ ts. (new_state.taken.items.ghost_name ≡ new_state.fixed) × IsFilled ts new_state.taken.given new_state.taken.items.now)
    (λ ts. (c.merge_reading.new.state.taken.items.ghost_name ≡ c.merge_reading.new.state.fixed) × IsFilled ts c.merge_reading.new.state.taken.given c.merge_reading.new.state.taken.items.now)
    (map from_left c.args.out.now) ts _ (merged.succeeds (tt, λ _ _ _. tt, λ _ _ _. tt)) merged.taken merged.stopped
    (c.new-state.ensures.borrowed ∙ sym c.new-state.ensures.fixed, rw (c.new-state.ensures.given, c.new-state.ensures.items) (IsFilled-none c.args.out.now)) in
    ap (λ b. b.items.ghost_name) c.result.ensures ∙ filled.0 ∙ c.merge_reading.ensures.fixed ∙ c.new-state.ensures.fixed

pub returns-in-Some-clause-filled : goal.returns-in-Some-clause-filled
returns-in-Some-clause-filled g c =
    let new_state = c.new-state.result in
    let merged = rw (c.new-state.ensures.left, c.new-state.ensures.right) at c.merge_reading.ensures in
    let ts = changes g.C.Compare.order (g.O.MergeOperation.connective c.args.op.now) c.args.a.now c.args.b.now in
    let filled = whole-output_after c.merge_reading.result
    (λ ts. (new_state.taken.items.ghost_name ≡ new_state.fixed) × IsFilled ts new_state.taken.given new_state.taken.items.now)
    (λ ts. (c.merge_reading.new.state.taken.items.ghost_name ≡ c.merge_reading.new.state.fixed) × IsFilled ts c.merge_reading.new.state.taken.given c.merge_reading.new.state.taken.items.now)
    (map from_left c.args.out.now) ts _ (merged.succeeds (tt, λ _ _ _. tt, λ _ _ _. tt)) merged.taken merged.stopped
    (c.new-state.ensures.borrowed ∙ sym c.new-state.ensures.fixed, rw (c.new-state.ensures.given, c.new-state.ensures.items) (IsFilled-none c.args.out.now)) in
    rw c.result.ensures filled.1

pub returns-in-Some-clause-comparisons : goal.returns-in-Some-clause-comparisons
returns-in-Some-clause-comparisons g c =
    let merged = rw (c.new-state.ensures.left, c.new-state.ensures.right) at c.merge_reading.ensures in
    merged.comparisons

pub returns-clause-borrowed : goal.returns-clause-borrowed
returns-clause-borrowed g c =
    let new_state = c.new-state.result in
    let merged = rw (c.new-state.ensures.left, c.new-state.ensures.right) at c.merge.ensures in
    let ts = changes g.C.Compare.order (g.O.MergeOperation.connective c.args.op.now) c.args.a.now c.args.b.now in
    let filled = whole-output_after c.merge.result
    (λ ts. (new_state.taken.items.ghost_name ≡ new_state.fixed) × IsFilled ts new_state.taken.given new_state.taken.items.now)
    (λ ts. (c.merge.new.state.taken.items.ghost_name ≡ c.merge.new.state.fixed) × IsFilled ts c.merge.new.state.taken.given c.merge.new.state.taken.items.now)
    (map from_left c.args.out.now) ts _ (merged.succeeds (tt, λ _ _ _. tt, λ _ _ _. tt)) merged.taken merged.stopped
    (c.new-state.ensures.borrowed ∙ sym c.new-state.ensures.fixed, rw (c.new-state.ensures.given, c.new-state.ensures.items) (IsFilled-none c.args.out.now)) in
    ap (λ b. b.items.ghost_name) c.result-2.ensures ∙ filled.0 ∙ c.merge.ensures.fixed ∙ c.new-state.ensures.fixed

pub returns-clause-filled : goal.returns-clause-filled
returns-clause-filled g c =
    let new_state = c.new-state.result in
    let merged = rw (c.new-state.ensures.left, c.new-state.ensures.right) at c.merge.ensures in
    let ts = changes g.C.Compare.order (g.O.MergeOperation.connective c.args.op.now) c.args.a.now c.args.b.now in
    let filled = whole-output_after c.merge.result
    (λ ts. (new_state.taken.items.ghost_name ≡ new_state.fixed) × IsFilled ts new_state.taken.given new_state.taken.items.now)
    (λ ts. (c.merge.new.state.taken.items.ghost_name ≡ c.merge.new.state.fixed) × IsFilled ts c.merge.new.state.taken.given c.merge.new.state.taken.items.now)
    (map from_left c.args.out.now) ts _ (merged.succeeds (tt, λ _ _ _. tt, λ _ _ _. tt)) merged.taken merged.stopped
    (c.new-state.ensures.borrowed ∙ sym c.new-state.ensures.fixed, rw (c.new-state.ensures.given, c.new-state.ensures.items) (IsFilled-none c.args.out.now)) in
    rw c.result-2.ensures filled.1

pub returns-clause-comparisons : goal.returns-clause-comparisons
returns-clause-comparisons g c =
    let merged = rw (c.new-state.ensures.left, c.new-state.ensures.right) at c.merge.ensures in
    merged.comparisons

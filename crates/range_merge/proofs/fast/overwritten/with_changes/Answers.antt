use Rattle.std.proofs.Common.{◌≡◌, [], take, refl, ◌∙◌}
use Rattle.range_merge.specs.Changes.{changes}
use Rattle.range_merge.specs.Copies.{AreCopies}
use Rattle.range_merge.proofs.Filled.{whole-output_after}
use Rattle.range_merge.proofs.fast.overwritten.with_changes.Goals.{in-Some, in-None}
use Rattle.range_merge.proofs.fast.overwritten.with_changes.Goals as goal

pub returns-clause-borrowed : goal.returns-clause-borrowed
returns-clause-borrowed g c =
    let alike = g.P.Copier.alike in
    let state = c.over-state.result in
    let over = c.over-state.ensures in
    let ts = changes g.C.Compare.order (g.O.MergeOperation.connective c.args.op.now) c.args.a.now c.args.b.now in
    elim c.match-of.branch [
      | in-Some w ↦
          let merged = rw (over.left, over.right) at w.merge_reading.ensures in
          let new = w.merge_reading.new.state in
          let written = whole-output_after w.merge_reading.result
          (λ ts. (state.taken.items.ghost_name ≡ state.fixed) × AreCopies alike ts (take state.taken.given state.taken.items.now))
          (λ ts. (new.taken.items.ghost_name ≡ new.fixed) × AreCopies alike ts (take new.taken.given new.taken.items.now))
          [] ts _ (merged.succeeds (tt, λ _ _ _. c.requires.infallible _, λ _ _ _. c.requires.infallible _)) merged.taken merged.stopped (rw (over.taken, over.fixed) (refl, tt)) in
          rw (c.result.ensures, w.state-is) (written.0 ∙ merged.fixed ∙ over.fixed)
      | in-None w ↦
          let merged = rw (over.left, over.right) at w.merge.ensures in
          let new = w.merge.new.state in
          let written = whole-output_after w.merge.result
          (λ ts. (state.taken.items.ghost_name ≡ state.fixed) × AreCopies alike ts (take state.taken.given state.taken.items.now))
          (λ ts. (new.taken.items.ghost_name ≡ new.fixed) × AreCopies alike ts (take new.taken.given new.taken.items.now))
          [] ts _ (merged.succeeds (tt, λ _ _ _. c.requires.infallible _, λ _ _ _. c.requires.infallible _)) merged.taken merged.stopped (rw (over.taken, over.fixed) (refl, tt)) in
          rw (c.result.ensures, w.state-is) (written.0 ∙ merged.fixed ∙ over.fixed)
    ]

pub returns-clause-copied : goal.returns-clause-copied
returns-clause-copied g c =
    let alike = g.P.Copier.alike in
    let state = c.over-state.result in
    let over = c.over-state.ensures in
    let ts = changes g.C.Compare.order (g.O.MergeOperation.connective c.args.op.now) c.args.a.now c.args.b.now in
    elim c.match-of.branch [
      | in-Some w ↦
          let merged = rw (over.left, over.right) at w.merge_reading.ensures in
          let new = w.merge_reading.new.state in
          let written = whole-output_after w.merge_reading.result
          (λ ts. (state.taken.items.ghost_name ≡ state.fixed) × AreCopies alike ts (take state.taken.given state.taken.items.now))
          (λ ts. (new.taken.items.ghost_name ≡ new.fixed) × AreCopies alike ts (take new.taken.given new.taken.items.now))
          [] ts _ (merged.succeeds (tt, λ _ _ _. c.requires.infallible _, λ _ _ _. c.requires.infallible _)) merged.taken merged.stopped (rw (over.taken, over.fixed) (refl, tt)) in
          rw (c.result.ensures, w.state-is) written.1
      | in-None w ↦
          let merged = rw (over.left, over.right) at w.merge.ensures in
          let new = w.merge.new.state in
          let written = whole-output_after w.merge.result
          (λ ts. (state.taken.items.ghost_name ≡ state.fixed) × AreCopies alike ts (take state.taken.given state.taken.items.now))
          (λ ts. (new.taken.items.ghost_name ≡ new.fixed) × AreCopies alike ts (take new.taken.given new.taken.items.now))
          [] ts _ (merged.succeeds (tt, λ _ _ _. c.requires.infallible _, λ _ _ _. c.requires.infallible _)) merged.taken merged.stopped (rw (over.taken, over.fixed) (refl, tt)) in
          rw (c.result.ensures, w.state-is) written.1
    ]

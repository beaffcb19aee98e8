use Rattle.std.proofs.Common.{◌≡◌, [], ap, ◌∙◌}
use Rattle.range_merge.proofs.Testing.{went_through}
use Rattle.range_merge.proofs.CopiesLemmas.{AreKeptThenCopies-first, AreCopies-kept}
use Rattle.range_merge.proofs.merge_state.small_vec.SmallVecMergeState+K+P+M.merge_to_vec.Goals.{in-Some+in_ok-_went_through-in-Some, in-None+in_ok-_went_through-in-None}
use Rattle.range_merge.proofs.merge_state.small_vec.SmallVecMergeState+K+P+M.merge_to_vec.Goals as goal

pub returns-clause-copied : goal.returns-clause-copied
returns-clause-copied g c =
    let alike = g.P.Copier.alike in
    let empty : c.over-state.result.taken.items ≡ [] =
    ap (λ list. list.items) c.over-state.ensures.taken ∙ c.requires.empty in
    let items : c.result.result.items ≡ c.match-of.state.taken.items = ap (λ list. list.items) c.result.ensures in
    elim c.match-of.branch [
      | in-Some+in_ok-_went_through-in-Some w ↦
          let merged = rw (c.over-state.ensures.left, c.over-state.ensures.right) at w.in_ok-_went_through-in-Some.ensures in
          let went = went_through w.in_ok-_went_through-in-Some._went_through merged.stopped in
          let kept = merged.taken went [] (rw (empty, c.over-state.ensures.fixed) (AreKeptThenCopies-first alike [])) in
          let copies = AreCopies-kept alike _ _ (rw (merged.fixed, c.over-state.ensures.fixed) at kept) in
          rw (items, w.state-is) copies
      | in-None+in_ok-_went_through-in-None w ↦
          let merged = rw (c.over-state.ensures.left, c.over-state.ensures.right) at w.in_ok-_went_through-in-None.ensures in
          let went = went_through w.in_ok-_went_through-in-None._went_through merged.stopped in
          let kept = merged.taken went [] (rw (empty, c.over-state.ensures.fixed) (AreKeptThenCopies-first alike [])) in
          let copies = AreCopies-kept alike _ _ (rw (merged.fixed, c.over-state.ensures.fixed) at kept) in
          rw (items, w.state-is) copies
    ]

use Rattle.std.proofs.Common.{◌≡◌, ℕ, ◌+◌, ◌*◌, ◌^◌, ◌<◌, ◌≤◌, length, Ok, Some, None}
use Rattle.range_merge.specs.Stages.{Members, Stage}
use Rattle.range_merge.specs.Runs.{weight}
use Rattle.range_merge.specs.OneRun.{ahead_of}
use Rattle.range_merge.specs.declared.merging.Went.TheVariants.{On}
use Rattle.std.specs.declared.alloc.AllocError.{AllocError}
use Rattle.range_merge.proofs.merging.take_rounds.Given as goal

abbrev pub invariant-loop-remaining : goal.invariant-loop-remaining
invariant-loop-remaining g l =
    let left = g.S.MergeState.left in
    let right = g.S.MergeState.right in
    let state = g.S.MergeStateMut in
    let m : Members _ _ = record { left = left; right = right; left_on = state.left_on; right_on = state.right_on; output = state.output; fixed = state.fixed; can_stop = state.can_stop; is_infallible = state.is_infallible } in
    let count = g.C.Compare.count in
    record {
      stage : Stage m g.C.Compare.order (g.O.MergeOperation.connective l.op) l.fn.state l.state (ahead_of l.fn.firsts) (count l.fn.cmp) (count l.cmp) {E = AllocError} (Ok (On l.firsts));
      fits : length (left l.fn.state) + length (right l.fn.state) < 2 ^ 65;
      no_longer : length (left l.state) + length (right l.state) ≤ length (left l.fn.state) + length (right l.fn.state);
      same : length (left l.state) + length (right l.state) ≡ length (left l.fn.state) + length (right l.fn.state)
          → (l.firsts ≡ l.fn.firsts) × (l.remaining ≡ l.fn.rounds);
      leaves : (n : ℕ) → l.fn.rounds ≡ Some n → (m : ℕ) × (l.remaining ≡ Some m)
          × (count l.cmp + n + 2 * weight g.C.Compare.order (left l.state) (right l.state)
          ≤ count l.fn.cmp + m + 2 * weight g.C.Compare.order (left l.fn.state) (right l.fn.state));
      uncounted : l.fn.rounds ≡ None → l.remaining ≡ None;
    }

abbrev pub decreases-loop-remaining : goal.decreases-loop-remaining
decreases-loop-remaining g l = length (g.S.MergeState.left l.state) + length (g.S.MergeState.right l.state)

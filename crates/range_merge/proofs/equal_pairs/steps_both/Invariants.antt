use Rattle.std.proofs.Common.{◌≡◌, ◌+◌, ◌*◌, ◌≤◌, length, Ok, Some}
use Rattle.std.specs.declared.cmp.Ordering.TheVariants.{Equal}
use Rattle.range_merge.specs.Runs.{weight}
use Rattle.range_merge.specs.Stages.{Members, Stage}
use Rattle.range_merge.specs.OneRun.{PairsGoOn, ahead_of}
use Rattle.range_merge.specs.declared.merging.Went.TheVariants.{On}
use Rattle.std.specs.declared.alloc.AllocError.{AllocError}
use Rattle.range_merge.proofs.equal_pairs.steps_both.Given as goal

abbrev pub invariant-loop-firsts : goal.invariant-loop-firsts
invariant-loop-firsts g l =
    let left = g.S.MergeState.left in
    let right = g.S.MergeState.right in
    let state = g.S.MergeStateMut in
    let m : Members _ _ = record { left = left; right = right; left_on = state.left_on; right_on = state.right_on; output = state.output; fixed = state.fixed; can_stop = state.can_stop; is_infallible = state.is_infallible } in
    let count = g.C.Compare.count in
    record {
      stage : Stage m g.C.Compare.order (g.O.MergeOperation.connective l.op) l.fn.state l.state (ahead_of l.fn.firsts) (count l.fn.cmp) (count l.cmp) {E = AllocError} (Ok (On l.firsts));
      no_longer : length (left l.state) + length (right l.state) ≤ length (left l.fn.state) + length (right l.fn.state);
      same : length (left l.state) + length (right l.state) ≡ length (left l.fn.state) + length (right l.fn.state) → l.firsts ≡ l.fn.firsts;
      leaves : count l.cmp + l.remaining + 2 * weight g.C.Compare.order (left l.state) (right l.state) ≤ count l.fn.cmp + 2 * weight g.C.Compare.order (left l.fn.state) (right l.fn.state);
      one : (l.firsts ≡ Some Equal → ⊥) → l.fn.firsts ≡ Some Equal → 1 ≤ l.remaining;
      go_on : 1 ≤ l.remaining → PairsGoOn (g.O.MergeOperation.connective l.op) state.can_stop (state.left_on l.state) (state.right_on l.state);
      others : (l.fn.firsts ≡ Some Equal → ⊥) → l.firsts ≡ l.fn.firsts;
    }

abbrev pub decreases-loop-firsts : goal.decreases-loop-firsts
decreases-loop-firsts g l = length (g.S.MergeState.left l.state)

use Rattle.std.proofs.Common.{◌+◌, ◌^◌, ◌<◌, ◌≤◌, length, Ok}
use Rattle.range_merge.specs.Stages.{Members, Stage}
use Rattle.range_merge.specs.declared.merging.Went.TheVariants.{On}
use Rattle.std.specs.declared.alloc.AllocError.{AllocError}
use Rattle.range_merge.proofs.fast.short_runs.take_runs.Given as goal

abbrev pub invariant-loop-state : goal.invariant-loop-state
invariant-loop-state g l =
    let left = g.S.MergeState.left in
    let right = g.S.MergeState.right in
    let state = g.S.MergeStateMut in
    let m : Members _ _ = record { left = left; right = right; left_on = state.left_on; right_on = state.right_on; output = state.output; fixed = state.fixed; can_stop = state.can_stop; is_infallible = state.is_infallible } in
    let count = g.C.Compare.count in
    record {
      stage : Stage m g.C.Compare.order (g.O.MergeOperation.connective l.op) l.fn.state l.state 0 (count l.fn.cmp) (count l.cmp) {E = AllocError} (Ok (On l.firsts));
      fits : length (left l.fn.state) + length (right l.fn.state) < 2 ^ 65;
      no_longer : length (left l.state) + length (right l.state) ≤ length (left l.fn.state) + length (right l.fn.state);
    }

abbrev pub decreases-loop-state : goal.decreases-loop-state
decreases-loop-state g l = length (g.S.MergeState.left l.state) + length (g.S.MergeState.right l.state)

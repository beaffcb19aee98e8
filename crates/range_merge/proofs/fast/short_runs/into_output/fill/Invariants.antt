use Rattle.std.proofs.Common.{◌≡◌, ◌+◌, ◌≤◌, length, take}
use Rattle.std.specs.Vec.{vec_capacity}
use Rattle.range_merge.proofs.fast.short_runs.into_output.fill.Given as goal

abbrev pub invariant-loop : goal.invariant-loop
invariant-loop g l = record {
  kept : take (length l.fn.list.items) l.list.items ≡ l.fn.list.items;
  len : length l.list.items ≡ length l.fn.list.items + l.counter;
  capacity : vec_capacity l.list ≡ vec_capacity l.fn.list;
  within : l.counter ≤ l.n;
}

use Rattle.std.proofs.Common.{◌≡◌, ◌+◌, ◌-◌, ◌≤◌, length, take, drop}
use Rattle.range_merge.proofs.fast.moves.swap_blocks_up.Given as goal

abbrev pub invariant-loop-i : goal.invariant-loop-i
invariant-loop-i g l =
    record {
      from : l.at ≤ l.i;
      within : l.i + l.by ≤ length l.fn.items;
      front : take l.i l.items ≡ take l.i l.fn.items;
      after : drop (l.i + l.by) l.items ≡ drop l.i (take (length l.fn.items - l.by) l.fn.items);
      len : length l.items ≡ length l.fn.items;
    }

abbrev pub decreases-loop-i : goal.decreases-loop-i
decreases-loop-i g l = l.i

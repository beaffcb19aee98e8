use Rattle.std.proofs.Common.{◌≡◌, ◌+◌, ◌++◌, length, take, drop}
use Rattle.range_merge.proofs.fast.moves.swap_few_down.Given as goal

abbrev pub invariant-loop-i : goal.invariant-loop-i
invariant-loop-i g l =
    record {
      front : take (l.to + l.i) l.items ≡ take l.to l.fn.items ++ take l.i (drop l.from l.fn.items);
      after : drop (l.from + l.i) l.items ≡ drop (l.from + l.i) l.fn.items;
      len : length l.items ≡ length l.fn.items;
    }

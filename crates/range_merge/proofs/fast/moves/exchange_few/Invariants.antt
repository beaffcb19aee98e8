use Rattle.std.proofs.Common.{◌≡◌, ◌+◌, length, take, drop}
use Rattle.range_merge.proofs.fast.moves.exchange_few.Given as goal

abbrev pub invariant-loop-i : goal.invariant-loop-i
invariant-loop-i g l =
    record {
      front : take l.i l.others ≡ take l.i (drop l.at l.fn.items);
      as_many : length l.others ≡ length l.fn.others;
      after : drop (l.at + l.i) l.items ≡ drop (l.at + l.i) l.fn.items;
      len : length l.items ≡ length l.fn.items;
    }

use Rattle.std.proofs.Common.{◌≡◌, ◌+◌, length, take}
use Rattle.range_merge.proofs.in_place.list.push_blanks.Given as goal

abbrev pub invariant-loop-i : goal.invariant-loop-i
invariant-loop-i g l =
    record {
      front : take (length l.fn.list.items) l.list.items ≡ l.fn.list.items;
      len : length l.list.items ≡ length l.fn.list.items + l._i;
      room : l.list.capacity ≡ l.fn.list.capacity;
    }

use Rattle.std.proofs.Common.{◌≡◌, ◌+◌, ◌≤◌, length, take}
use Rattle.range_merge.specs.Copies.{IsAppended}
use Rattle.range_merge.proofs.merge_state.small_vec.append_copies.Given as goal

abbrev pub invariant-loop-item : goal.invariant-loop-item
invariant-loop-item g l =
    let grows = g.L.GrowsAtEnd in
    record {
      copied : IsAppended g.P.Copier.alike (take l.item-index l.items) (grows.items l.fn.list) (grows.items l.list);
      room : length (grows.items l.list) + length l.items ≤ grows.room l.list + l.item-index;
      same_room : length (grows.items l.fn.list) + length l.items ≤ grows.room l.fn.list → grows.room l.list ≡ grows.room l.fn.list;
    }

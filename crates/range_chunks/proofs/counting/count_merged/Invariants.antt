use Rattle.std.proofs.Common.{◌≡◌, ◌+◌, ◌≤◌, All, length, drop}
use Rattle.std.specs.List.{AllWithin}
use Rattle.std.specs.declared.cmp.Ordering.TheVariants.{Less}
use Rattle.range_merge.specs.Boundaries.{IsAscending, is_odd}
use Rattle.range_merge.specs.Changes.{changes}
use Rattle.range_list.specs.Lists.{joined, place_at, IsPlaceAt}
use Rattle.range_chunks.specs.Lengths.{remaining}
use Rattle.range_chunks.proofs.counting.count_merged.Given as goal

abbrev pub invariant-loop-at : goal.invariant-loop-at
invariant-loop-at g l = record {
  place : IsPlaceAt l.list l.from;
  sorted : IsAscending g.T.Ord.cmp (g.U.Unread.unread l.unread);
  fewer : length (g.U.Unread.unread l.unread) ≤ length (g.U.Unread.unread l.fn.that);
  above : All (λ y. AllWithin (λ z. g.T.Ord.cmp z y ≡ Less) (joined l.list) 0 (place_at l.list l.from)) (g.U.Unread.unread l.unread);
  counted : length (changes g.T.Ord.cmp (g.O.MergeOperation.connective l.op) (joined l.list) (g.U.Unread.unread l.fn.that))
      ≡ l.len + remaining g.T.Ord.cmp (g.O.MergeOperation.connective l.op) (is_odd (place_at l.list l.from)) l.on
      (drop (place_at l.list l.from) (joined l.list)) (g.U.Unread.unread l.unread);
}

abbrev pub decreases-loop-at : goal.decreases-loop-at
decreases-loop-at g l = length (g.U.Unread.unread l.unread)

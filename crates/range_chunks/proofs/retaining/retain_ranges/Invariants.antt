use Rattle.std.proofs.Common.{◌≡◌, ◌≤◌, ◌<◌, ◌-◌, ◌++◌, false, filter, length, take, drop}
use Rattle.range_merge.specs.Boundaries.{IsAscending, is_odd}
use Rattle.range_collections.specs.Ranges.{ranges_of}
use Rattle.range_list.specs.Lists.{joined, place_at, IsPlaceAt}
use Rattle.range_chunks.proofs.retaining.retain_ranges.Given as goal

abbrev pub invariant-loop-at : goal.invariant-loop-at
invariant-loop-at g l = record {
  at_place : IsPlaceAt l.list l.at;
  end_place : IsPlaceAt l.list l.end;
  ordered : place_at l.list l.end ≤ place_at l.list l.at;
  len : length (joined l.list) ≡ length (joined l.fn.list);
  within : place_at l.list l.at ≤ length (joined l.list);
  even : place_at l.list l.at < length (joined l.list) → is_odd (place_at l.list l.at) ≡ false;
  even_end : place_at l.list l.at < length (joined l.list) → is_odd (place_at l.list l.end) ≡ false;
  later : drop (place_at l.list l.at) (joined l.list) ≡ drop (place_at l.list l.at) (joined l.fn.list);
  sorted : IsAscending g.T.Ord.cmp (take (place_at l.list l.end) (joined l.list) ++ drop (place_at l.list l.at) (joined l.list));
  ranges : ranges_of (take (place_at l.list l.end) (joined l.list)) ≡
      filter (g.F.RangeFilter.is_kept l.by) (ranges_of (take (place_at l.list l.at) (joined l.fn.list)));
}

abbrev pub decreases-loop-at : goal.decreases-loop-at
decreases-loop-at g l = length (joined l.list) - place_at l.list l.at

use Rattle.std.proofs.Common.{◌≡◌, ◌+◌, ◌/◌, ◌<◌, ◌^◌, List, ◌++◌, length}
use Rattle.std.specs.List.{flat_map}
use Rattle.range_collections.specs.Ranges.{range_ends, ranges_of}
use Rattle.range_collections.specs.declared.range_set_range.RangeSetRange.{RangeSetRange}
use Rattle.range_c.specs.Text.{PutsText}
use Rattle.range_c.proofs.chunked.ranges.put_front.Given as goal

abbrev pub invariant-loop-range : goal.invariant-loop-range
invariant-loop-range g l = record {
  small : length l.initial.out < 2 ^ 64;
  done : List (RangeSetRange g.row.T.Denot);
  counted : length done + l.left ≡ length l.initial.out / 2;
  put : PutsText 0 (flat_map range_ends done) l.initial.out l.out l.len;
  unread : done ++ ranges_of l.range-iterator ≡ ranges_of l.initial.range-iterator;
}

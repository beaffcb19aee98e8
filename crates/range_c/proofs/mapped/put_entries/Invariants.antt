use Rattle.std.proofs.Common.{◌≡◌, ◌/◌, ◌<◌, ◌≤◌, ◌^◌, List, ◌++◌, length, map, min}
use Rattle.range_collections.specs.declared.range_set_range.RangeSetRange.{RangeSetRange}
use Rattle.range_c.specs.Mapped.{entry_ends}
use Rattle.range_c.specs.Text.{PutsText}
use Rattle.range_c.proofs.mapped.put_entries.Given as goal

abbrev pub invariant-loop-range : goal.invariant-loop-range
invariant-loop-range g l = record {
  small_ends : length l.initial.ends < 2 ^ 64;
  small_values : length l.initial.values < 2 ^ 64;
  done : List (RangeSetRange g.row.K.Denot × g.row.V.Denot);
  counted : l.count ≡ length done;
  within : l.count ≤ min (length l.initial.ends / 2) (length l.initial.values);
  ends : PutsText 0 (entry_ends done) l.initial.ends l.ends l.len;
  values : PutsText 0 (map (λ e. e.1) done) l.initial.values l.values l.count;
  unread : done ++ l.range-iterator ≡ l.initial.range-iterator;
}

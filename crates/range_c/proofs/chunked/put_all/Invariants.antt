use Rattle.std.proofs.Common.{◌≡◌, List, ◌++◌}
use Rattle.std.specs.List.{flat_map}
use Rattle.range_collections.specs.Ranges.{range_ends, ranges_of}
use Rattle.range_c.specs.Text.{PutsText}
use Rattle.range_c.proofs.chunked.put_all.Given as goal

abbrev pub invariant-loop-range : goal.invariant-loop-range
invariant-loop-range g l = record {
  done : List g.row.T.Denot;
  put : PutsText l.initial.len done l.initial.out l.out l.len;
  left : done ++ flat_map range_ends (ranges_of l.range-iterator) ≡ flat_map range_ends (ranges_of l.initial.range-iterator);
}

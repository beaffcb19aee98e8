use Rattle.std.proofs.Common.{◌≡◌, List, ◌++◌, ℕ}
use Rattle.range_collections.specs.Ranges.{ranges_of}
use Rattle.range_collections.specs.Text.{others_text}
use Rattle.range_c.specs.Text.{PutsText}
use Rattle.range_c.proofs.text.put_others.Given as goal

abbrev pub invariant-loop-range : goal.invariant-loop-range
invariant-loop-range g l = record {
  done : List ℕ;
  put : PutsText l.initial.len done l.initial.out l.out l.len;
  left : done ++ others_text g.T.Integer.text (ranges_of l.range-iterator) ≡ others_text g.T.Integer.text (ranges_of l.initial.range-iterator);
}

use Rattle.std.proofs.Common.{◌≡◌, ◌+◌, ◌&&◌, List, ℕ, length}
use Rattle.std.specs.Iterator.{AlwaysYields}
use Rattle.std.specs.List.{flat_map, filter_map}
use Rattle.std.specs.Str.Iter.{split_steps}
use Rattle.std.specs.Str.Pattern.{FindsChar}
use Rattle.range_collections.specs.Ranges.{range_ends}
use Rattle.range_collections.specs.Reading.{parts_of, range_in}
use Rattle.range_c.specs.Reading.{numbers_in}
use Rattle.range_c.proofs.Read.{are_ranges}
use Rattle.range_c.proofs.reading.count_numbers.Given as goal

abbrev pub invariant-loop-part : goal.invariant-loop-part
invariant-loop-part g l = record {
  left : List (List ℕ);
  yields : AlwaysYields (split_steps FindsChar (λ a b. b ≡ a)) (λ x. x.now) l.part-iterator left;
  counted : l.count + length (flat_map range_ends (filter_map (range_in g.T.WholeNumber.number) left)) ≡ numbers_in g.T.WholeNumber.number l.text;
  ranges : (l.are_ranges && are_ranges g.T.WholeNumber.number left) ≡ are_ranges g.T.WholeNumber.number (parts_of l.text);
}

use Rattle.std.proofs.Common.{◌≡◌, ℕ, List, ◌++◌}
use Rattle.std.specs.Prelude.{decimal}
use Rattle.std.specs.Io.KnownBytes.{Appends}
use Rattle.range_collections.specs.Ranges.{ranges_of}
use Rattle.range_collections.specs.Text.{others_text}
use Rattle.range_track_answers.proofs.writing.write_ranges.Given as goal

abbrev pub invariant-loop-range : goal.invariant-loop-range
invariant-loop-range g l =
    (done : List ℕ) × Appends (g.W.Write.contents l.initial.out) (g.W.Write.contents l.out) done
    × (done ++ others_text decimal (ranges_of l.range-iterator) ≡ others_text decimal (ranges_of l.initial.range-iterator))

use Rattle.std.proofs.Common.{◌≡◌, ℕ, List, ◌++◌}
use Rattle.std.specs.Io.KnownBytes.{Appends}
use Rattle.range_collections.specs.Ranges.{ranges_of}
use Rattle.range_track_answers.proofs.Ends.{ends_text}
use Rattle.range_track_answers.proofs.writing.write_gaps.Given as goal

abbrev pub invariant-loop-gap : goal.invariant-loop-gap
invariant-loop-gap g l =
    (done : List ℕ) × Appends (g.W.Write.contents l.initial.out) (g.W.Write.contents l.out) done
    × (done ++ ends_text (ranges_of l.gap-iterator) ≡ ends_text (ranges_of l.initial.gap-iterator))

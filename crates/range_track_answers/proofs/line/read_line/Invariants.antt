use Rattle.std.proofs.Common.{◌≡◌, ℕ, List, ◌++◌, take}
use Rattle.std.specs.Prelude.{Some, IfSome}
use Rattle.std.specs.Io.Iter.{bytes_left, bytes_remaining}
use Rattle.range_track_answers.specs.Lines.{IsLine}
use Rattle.range_track_answers.proofs.line.read_line.Given as goal

abbrev pub invariant-loop-byte : goal.invariant-loop-byte
invariant-loop-byte g l =
    (done : List ℕ) × IsLine done × (l.line.items ≡ take 65 done)
    × IfSome (bytes_remaining g.R.Read.remaining l.initial.bytes) (λ text. (rest : List ℕ)
    × (bytes_remaining g.R.Read.remaining l.bytes ≡ Some rest) × (text ≡ done ++ rest))

abbrev pub decreases-loop-byte : goal.decreases-loop-byte
decreases-loop-byte g l = bytes_left l.bytes

use Rattle.std.proofs.Common.{◌≡◌, ℕ, List}
use Rattle.std.specs.Prelude.{Some, IfSome}
use Rattle.std.specs.Io.Iter.{bytes_remaining}
use Rattle.range_track_answers.proofs.Served.{Served}
use Rattle.range_merge.specs.Boundaries.{member}
use Rattle.std.specs.Ordering.{nat_cmp}
use Rattle.range_track_answers.proofs.answering.serve.Given as goal

abbrev pub invariant-loop : goal.invariant-loop
invariant-loop g l = record {
  limit : l.tracker.limit ≡ l.fn.tracker.limit;
  served : IfSome (g.R.Read.remaining l.fn.reader) (λ text. (rest : List ℕ)
      × (bytes_remaining g.R.Read.remaining l.bytes ≡ Some rest)
      × Served l.fn.tracker.limit (member nat_cmp l.fn.tracker.boundaries) text rest (member nat_cmp l.tracker.boundaries) (g.W.Write.contents l.fn.out) (g.W.Write.contents l.out));
}

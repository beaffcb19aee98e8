use Rattle.std.proofs.Common.{◌≡◌, ◌≤◌, ◌-◌, ℕ, false}
use Rattle.range_collections.specs.Fits.{IsOneOf, IsFit}
use Rattle.range_chunks.proofs.space.ChunkedSpace.first_fit_between.Given as goal

abbrev pub invariant-loop-multiples : goal.invariant-loop-multiples
invariant-loop-multiples g l = record {
  same : l.self ≡ l.initial.self;
  from : g.T.Countable.place l.fn.start ≤ g.T.Countable.place l.from;
  above : (n : ℕ) → IsOneOf l.multiples n → IsFit g.T.Ord.cmp g.T.Countable.value false l.initial.self (g.T.Countable.place l.fn.start) (g.T.Countable.place l.end) l.count n → g.T.Countable.place l.from ≤ n;
}

abbrev pub decreases-loop-multiples : goal.decreases-loop-multiples
decreases-loop-multiples g l = g.T.Countable.place l.end - g.T.Countable.place l.from

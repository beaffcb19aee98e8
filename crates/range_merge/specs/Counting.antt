-- How a counter of comparisons moves.
use Rattle.std.specs.Prelude.{ℕ, ◌+◌, ◌≤◌}

-- from old to new the count does not fall, and rises by at most n
pub record AddsAtMost (old new n : ℕ) : Type 0 where
  pub at_least : old ≤ new
  pub at_most : new ≤ old + n

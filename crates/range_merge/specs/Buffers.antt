-- A slice that is filled from its front.
--     IsFilled ts given items     the slice's items, where it had the first of `ts` and was given the others
use Rattle.std.specs.Prelude.{◌≡◌, ℕ, ◌+◌, ◌≤◌, List, ◌++◌, length, take, drop}
use Rattle.range_merge.specs.Changes.{Taken, taken_items}

-- as many of `ts` as there are items stood in the slice first, and the slice was given the others;
-- and where there are no more of those than items, they come first, and then what stood there
pub record IsFilled {K : Type 0} (ts : List (Taken K)) (given : ℕ) (items : List K) : Type 0 where
  pub counted : length ts ≡ length items + given
  pub written : given ≤ length items → items ≡
      taken_items (drop (length items) ts) ++ drop given (taken_items (take (length items) ts))

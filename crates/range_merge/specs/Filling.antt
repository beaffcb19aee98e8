-- What a merge answers that fills a list with copies.
--     FitInline is_infallible room a b      a merge of a and b needs no memory, and none of its copies fails
--     GivesCopies alike order f a b sure r  the copies, or out of memory where it isn't sure
use Rattle.smallvec.specs.SmallVec.{SmallVec}
use Rattle.std.specs.Prelude.{ℕ, ◌+◌, ◌≤◌, All, List, length, Result, IsOk, IfOk}
use Rattle.std.specs.declared.alloc.AllocError.{AllocError}
use Rattle.std.specs.declared.cmp.Ordering.{Ordering}
use Rattle.range_merge.specs.Changes.{changes}
use Rattle.range_merge.specs.Connective.{Table}
use Rattle.range_merge.specs.Copies.{AreCopies}

module _ {K : Type 0} where
  -- there is room for the items of both, and no copy of one fails
  abbrev pub FitInline : (K → Type 0) → ℕ → List K → List K → Type 0
  FitInline is_infallible room a b =
      (length a + length b ≤ room) × All is_infallible a × All is_infallible b

  -- an answer to a merge of a and b by f: an Ok has a copy of each item at which f changes; and it
  -- is an Ok where it is sure to be one
  pub record GivesCopies (alike : K → K → Type 0) (order : K → K → Ordering) (f : Table)
      (a b : List K) (sure : Type 0) (r : Result (SmallVec K) AllocError) : Type 0 where
    pub copied : IfOk r (λ list. AreCopies alike (changes order f a b) list.items)
    pub succeeds : sure → IsOk r

-- What the operations on two sets answer, each with its connective.
--     GivesOperation order is_copy is_infallible f room a b r   the set that f makes of a and b, or out of memory, which can't be where there is room and each item is infallible
use Rattle.std.specs.Prelude.{ℕ, ◌+◌, ◌≤◌, All, List, length, Result, IsOk, IfOk}
use Rattle.std.specs.declared.alloc.AllocError.{AllocError}
use Rattle.std.specs.declared.cmp.Ordering.{Ordering}
use Rattle.range_merge.specs.Changes.{changes}
use Rattle.range_merge.specs.Connective.{Table, Means}
use Rattle.range_merge.specs.Copies.{AreCopies}

module _ {K : Type 0} (order : K → K → Ordering) (is_copy : K → K → Type 0)
    (is_infallible : K → Type 0) where
  -- an answer to an operation on a and b. An Ok means the connective, and its items are copies of
  -- the changes, which hold a's item where both sides have one. It is an Ok where there is room for
  -- the items of both and each of them is infallible
  pub record GivesOperation (f : Table) (room : ℕ) (a b : List K)
      (r : Result (List K) AllocError) : Type 0 where
    pub means : IfOk r (λ items. Means order f items a b)
    pub left_own_item : IfOk r (λ items. AreCopies is_copy (changes order f a b) items)
    pub succeeds : length a + length b ≤ room → All is_infallible a → All is_infallible b → IsOk r

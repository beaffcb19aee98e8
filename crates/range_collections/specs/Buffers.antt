-- What an operation writes into a borrowed slice.
--     WritesOperation order f a b old new r     the slice after the operation f, and the answer
use Rattle.std.specs.Prelude.{◌≡◌, ◌↔◌, ℕ, ◌<◌, List, length, take, drop, Result, IsErr, IfOk, IfErr}
use Rattle.std.specs.declared.cmp.Ordering.{Ordering}
use Rattle.range_merge.specs.Changes.{changes, taken_items}
use Rattle.range_merge.specs.Connective.{Table, Means}
use Rattle.range_merge.specs.declared.merge_state.buffer.NoRoom.{NoRoom}

-- an Ok has how many items were written: they are the one list of the operation, of two equal
-- items the left's, and after them the slice is as it was; an error comes exactly where the slice
-- is shorter than that list, and has its length
pub record WritesOperation {K : Type 0} (order : K → K → Ordering) (f : Table)
    (a b old new : List K) (r : Result ℕ NoRoom) : Type 0 where
  pub means : IfOk r (λ n. Means order f (take n new) a b)
  pub left_own_item : IfOk r (λ n. take n new ≡ taken_items (changes order f a b))
  pub written : IfOk r (λ n. n ≡ length (changes order f a b))
  pub after : IfOk r (λ n. drop n new ≡ drop n old)
  pub no_room : IsErr r ↔ (length old < length (changes order f a b))
  pub needed : IfErr r (λ refused. refused.needed ≡ length (changes order f a b))

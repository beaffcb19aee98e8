-- A set changed in a buffer of the caller's, with room after it.
--     ChangesList order f a b old new n     the list that the operation f makes of a and b has n items, and stands in the buffer where that has room
--     ChangesWithin order f a b old new n   the same where the buffer has room for a beside it
use Rattle.std.specs.Prelude.{◌≡◌, ℕ, ◌+◌, ◌<◌, ◌≤◌, List, length, take}
use Rattle.std.specs.declared.cmp.Ordering.{Ordering}
use Rattle.range_collections.specs.Connective.{Table, Means}

-- n is the length of the one list that the operation gives. Where the buffer is long enough it
-- begins with that list, and else it is as it was
pub record ChangesList {K : Type 0} (order : K → K → Ordering) (f : Table) (a b old new : List K)
    (n : ℕ) : Type 0 where
  pub counted : (items : List K) → Means order f items a b → n ≡ length items
  pub means : n ≤ length old → Means order f (take n new) a b
  pub unchanged : length old < n → new ≡ old

-- where the buffer has room for the one list that the operation gives and for a beside it, n is the
-- length of that list, and the buffer begins with it; else it is as it was, and n is the room that
-- both take
pub record ChangesWithin {K : Type 0} (order : K → K → Ordering) (f : Table) (a b old new : List K)
    (n : ℕ) : Type 0 where
  pub means : n ≤ length old → Means order f (take n new) a b
  pub unchanged : length old < n → new ≡ old
  pub counted : (items : List K) → Means order f items a b →
      length a + length items ≤ length old → n ≡ length items
  pub needed : (items : List K) → Means order f items a b →
      length old < length a + length items → n ≡ length a + length items

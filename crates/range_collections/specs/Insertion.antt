-- A range put into a set or taken out of it.
--     IsChangedByRange order f room a b new r     the list after a call that puts a range in or takes it out
--     without_value r                             the Ok or the Err of r, without the Ok's value
use Rattle.std.specs.Prelude.{◌≡◌, ◌⊎◌, ℕ, ◌≤◌, List, [], length, Result, Ok, Err, IsOk, OnOk, OnErr}
use Rattle.std.specs.declared.alloc.AllocError.{AllocError}
use Rattle.std.specs.declared.cmp.Ordering.{Ordering}
use Rattle.range_merge.specs.Connective.{Table, Means}
use Rattle.range_collections.specs.InPlace.{AreOwnElseOf}

-- the Ok or the Err of r, without the Ok's value
abbrev pub without_value : {A E : Type 0} → Result A E → Result (Unit {0}) E
without_value (Ok a) = Ok tt
without_value (Err e) = Err e

module _ {K : Type 0} (order : K → K → Ordering) where
  -- a list that a call with a range changed from a to new, where b are the range's boundaries: an
  -- Ok means the connective, with a's own items where both have one; an Err leaves a as it was; an
  -- Ok comes where the one list that means the connective is no longer than a, or has room; and an
  -- empty range changes nothing
  pub record IsChangedByRange (f : Table) (room : ℕ) (a b new : List K)
      (r : Result (Unit {0}) AllocError) : Type 0 where
    pub means : OnOk r (Means order f new a b)
    pub left_own_item : OnOk r (AreOwnElseOf order a b new)
    pub unchanged : OnErr r (new ≡ a)
    pub succeeds : (items : List K) → Means order f items a b →
        (length items ≤ length a) ⊎ (length items ≤ room) → IsOk r
    pub empty : b ≡ [] → (new ≡ a) × IsOk r

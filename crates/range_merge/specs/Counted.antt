-- Short runs of two slices that are only counted.
--     Counts R k k' from to         steps of which only the number of what they put out is known
--     IsCounted .. i0 j0 i j k next how many items are taken between these, and how the next ones stand
use Rattle.std.specs.Prelude.{◌≡◌, ℕ, List, length}
use Rattle.std.specs.declared.cmp.Ordering.{Ordering}
use Rattle.range_merge.specs.Connective.{Table}
use Rattle.range_merge.specs.ShortRuns.{Place, IsRead}

module _ {K : Type 0} where
  -- from a place these steps lead to another, where k items are put out, which nobody keeps
  pub record LeadsTo (R : Place K → Place K → Type 0) (k : ℕ) (from : Place K) (to : List K → Place K) : Type 0 where
    pub out : List K
    pub len : length out ≡ k
    pub steps : R from (to out)

  -- so they do from each place where k items are put out: then k' are
  abbrev pub Counts : (Place K → Place K → Type 0) → ℕ → ℕ → (List K → Place K) → (List K → Place K) → Type 0
  Counts R k k' from to = (out : List K) → length out ≡ k → LeadsTo R k' (from out) to

-- from the items i0 and j0 to the items i and j: k items are taken, which nobody keeps, and how the
-- next items stand
pub record IsCounted {K : Type 0} (order : K → K → Ordering) (f : Table) (a b : List K)
    (i0 j0 i j k : ℕ) (next : Ordering) : Type 0 where
  pub out : List K
  pub len : length out ≡ k
  pub read : IsRead (λ x y. x ≡ y) order f a b i0 j0 i j out next

-- The intersection of many parts, each of which has boundaries, as a set does.
--     is_in_each order boundaries parts x     x is a member of each of the parts
--     GivesIntersection order is_infallible boundaries room parts r    what an intersection of parts answers
use Rattle.std.specs.Prelude.{◌≡◌, ℕ, ◌≤◌, Bool, All, List, length, Result, IsOk, IfOk}
use Rattle.std.specs.List.{flat_map, list_all}
use Rattle.std.specs.declared.alloc.AllocError.{AllocError}
use Rattle.std.specs.declared.cmp.Ordering.{Ordering}
use Rattle.range_merge.specs.Boundaries.{IsAscending, member}

module _ {K : Type 0} (order : K → K → Ordering) where
  -- x is a member of each of the parts
  abbrev pub is_in_each : {P : Type 0} → (P → List K) → List P → K → Bool
  is_in_each boundaries parts x = list_all (λ part. member order (boundaries part) x) parts

  -- an answer to an intersection of parts: an Ok is strictly sorted and has the members of each, and
  -- no more items than the parts have together; and it is an Ok where these have room and no copy of
  -- one is refused
  pub record GivesIntersection {P : Type 0} (is_infallible : K → Type 0) (boundaries : P → List K)
      (room : ℕ) (parts : List P) (r : Result (List K) AllocError) : Type 0 where
    pub sorted : IfOk r (IsAscending order)
    pub members : IfOk r (λ items. (x : K) → member order items x ≡ is_in_each boundaries parts x)
    pub at_most : IfOk r (λ items. length items ≤ length (flat_map boundaries parts))
    pub succeeds : length (flat_map boundaries parts) ≤ room →
        All is_infallible (flat_map boundaries parts) → IsOk r

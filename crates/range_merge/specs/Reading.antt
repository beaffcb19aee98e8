-- Short runs that are read into the room of an output.
--     CanRead ..       what can be read
--     IsReadInto ..    what an output was given, and what is left to read
--     CostsAtMost ..   what it costs to read a number of items
use Rattle.std.specs.Prelude.{◌≡◌, ℕ, ◌+◌, ◌*◌, ◌^◌, ◌<◌, ◌≤◌, Bool, List, length, drop, Some}
use Rattle.std.specs.declared.cmp.Ordering.{Ordering}
use Rattle.range_merge.specs.Boundaries.{IsAscending, is_odd}
use Rattle.range_merge.specs.Changes.{Taken}
use Rattle.range_merge.specs.Connective.{Table}
use Rattle.range_merge.specs.Stages.{Progress}
use Rattle.range_merge.specs.Runs.{weight}
use Rattle.range_merge.specs.OneRun.{FirstsStand}

-- two slices of plain data can be read, whose first items stand so
pub record CanRead {K : Type 0} (order : K → K → Ordering) (alike : K → K → Type 0)
    (is_infallible : K → Type 0) (a b : List K) (next : Ordering) : Type 0 where
  pub left_ascending : IsAscending order a
  pub right_ascending : IsAscending order b
  pub stands : FirstsStand order a b (Some next)
  pub infallible : (x : K) → is_infallible x
  pub plain : (x y : K) → alike x y → y ≡ x
  pub short : length a + length b < 2 ^ 65

module _ {K : Type 0} (order : K → K → Ordering) (a b : List K) (i0 j0 i j : ℕ) where
  -- what it costs to read from the items i0 and j0 up to the items i and j: six more than twice
  -- their weight, if that
  abbrev pub CostsAtMost : ℕ → Type 0
  CostsAtMost n =
      n + 2 * weight order (drop i a) (drop j b) ≤ 2 * weight order (drop i0 a) (drop j0 b) + 6

  -- an output was given what is taken between these items, where a side is on after an odd number
  -- of its items
  pub record IsReadInto (f : Table) (next : Ordering) {L By : Type 0}
      (can_stop : Bool) (may_be : L → ℕ → List (Taken K) → Type 0) (fixed : L → By → ℕ)
      (fits has_room : L → ℕ → Type 0) (old new : L) : Type 0 where
    pub lefts : i0 ≤ i
    pub rights : j0 ≤ j
    pub progress : (first : ℕ) → Progress order f can_stop (drop i0 a) (drop j0 b)
        (is_odd i0) (is_odd j0) (may_be old first)
        (drop i a) (drop j b) (is_odd i) (is_odd j) (may_be new first)
    pub stands : FirstsStand order (drop i a) (drop j b) (Some next)
    pub stays : (means : By) → fixed new means ≡ fixed old means
    pub still_fits : fits new (length (drop i a) + length (drop j b))
    pub still_room : has_room old (length (drop i0 a) + length (drop j0 b))
        → has_room new (length (drop i a) + length (drop j b))

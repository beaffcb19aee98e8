-- Short runs of two slices that are read item by item.
--     odd_from on                   the first unread item, from the last even place of a list on
--     lefts_of how, rights_of how   how many items of each side one step reads
--     IsLong next i0 j0 i j         a run is long: it took all items since a look, and goes on
--     Place, place ..               how far some steps came
--     Then R S                      one of these comes after the other
--     IsRead .. i0 j0 i j out next  what was put out between these items, and how the next ones stand
--     IsStep, AreFour               one step from a place to the next, four of them
--     IsLooked, AreSixteen          four steps and a look, unless a run was long; up to sixteen
use Rattle.std.specs.Prelude.{◌≡◌, ◌⊎◌, ℕ, ◌+◌, ◌<◌, ◌≤◌, Bool, true, false, List, [], length, take, drop, Some, if◌then◌else◌}
use Rattle.std.specs.Ordering.{is_le}
use Rattle.std.specs.declared.cmp.Ordering.{Ordering}
use Rattle.std.specs.declared.cmp.Ordering.TheVariants.{Less, Equal, Greater}
use Rattle.range_merge.specs.Boundaries.{is_odd}
use Rattle.range_merge.specs.Connective.{Table}
use Rattle.range_merge.specs.Copies.{AreCopies, IsAppended, items_if}
use Rattle.range_merge.specs.Stages.{Progress}
use Rattle.range_merge.specs.OneRun.{FirstsStand, one_of_run, takes}

-- the first unread item of a list that begins at its last even place, where its side stands so
abbrev pub odd_from : Bool → ℕ
odd_from on = if on then 1 else 0

-- how many items of the left list one step reads
abbrev pub lefts_of : Ordering → ℕ
lefts_of Less = 1
lefts_of Equal = 1
lefts_of Greater = 0

-- how many items of the right list one step reads
abbrev pub rights_of : Ordering → ℕ
rights_of Less = 0
rights_of Equal = 1
rights_of Greater = 1

-- between two looks items of one side alone were read, and the next one is of that side
abbrev pub IsLong : Ordering → ℕ → ℕ → ℕ → ℕ → Type 0
IsLong Less i0 j0 i j = j ≡ j0
IsLong Equal i0 j0 i j = ⊥
IsLong Greater i0 j0 i j = i ≡ i0

-- how far some steps came in two lists: what was put out, how the next items stand, whether a run
-- is long, and how many comparisons were made
pub record Place (K : Type 0) : Type 0 where
  pub i : ℕ
  pub j : ℕ
  pub out : List K
  pub next : Ordering
  pub long : Bool
  pub made : ℕ

abbrev pub place : {K : Type 0} → ℕ → ℕ → List K → Ordering → Bool → ℕ → Place K
place i j out next long made =
    record { i = i; j = j; out = out; next = next; long = long; made = made }

-- first R and then S leads from a place to another
pub record Then {K : Type 0} (R S : Place K → Place K → Type 0) (from to : Place K) : Type 0 where
  pub mid : Place K
  pub first : R from mid
  pub rest : S mid to

module _ {K : Type 0} (alike : K → K → Type 0) (order : K → K → Ordering) (f : Table)
    (a b : List K) where
  -- from the items i0 and j0 to the items i and j, where a side is on after an odd number of its
  -- items: what was put out, and how the next items stand
  pub record IsRead (i0 j0 i j : ℕ) (out : List K) (next : Ordering) : Type 0 where
    pub lefts : i0 ≤ i
    pub rights : j0 ≤ j
    pub progress : Progress order f false (drop i0 a) (drop j0 b) (is_odd i0) (is_odd j0)
        (λ ts. AreCopies alike ts []) (drop i a) (drop j b) (is_odd i) (is_odd j)
        (λ ts. AreCopies alike ts out)
    pub stands : FirstsStand order (drop i a) (drop j b) (Some next)

  -- one step: it puts out the first item, if that is taken
  pub record IsStep (from to : Place K) : Type 0 where
    pub left_some : from.i < length a
    pub right_some : from.j < length b
    pub lefts : to.i ≡ from.i + lefts_of from.next
    pub rights : to.j ≡ from.j + rights_of from.next
    pub put : IsAppended alike
        (items_if (takes f (is_odd from.i) (is_odd from.j) (one_of_run from.next))
        (take 1 (if is_le from.next then drop from.i a else drop from.j b))) from.out to.out
    pub stands : FirstsStand order (drop to.i a) (drop to.j b) (Some to.next)
    pub counted : to.made ≡ from.made + 1

  -- four steps
  abbrev pub AreFour : Place K → Place K → Type 0
  AreFour = Then IsStep (Then IsStep (Then IsStep IsStep))

  -- four steps and a look, unless a run was long before
  abbrev pub IsLooked : Place K → Place K → Type 0
  IsLooked from to =
      ((from.long ≡ true) × (to ≡ from))
      ⊎ ((from.long ≡ false) × AreFour from to
      × (to.long ≡ false → IsLong to.next from.i from.j to.i to.j → ⊥))

  -- up to sixteen steps
  abbrev pub AreSixteen : Place K → Place K → Type 0
  AreSixteen = Then IsLooked (Then IsLooked (Then IsLooked IsLooked))

-- Where a stretch of values fits beside a set, or in it: of values that stand in a row, each with
-- a number of values below it.
--     place_after place ends      the place after the last value of a range
--     IsFromTo ends s e           the range goes from s to below e
--     Fits order number items start end len x     the len elements from x on lie between the places start and end, and none is a member
--     IsFit order value inside items start end count at   the `count` values from the place `at` on lie between the places start and end, and are members exactly if `inside`
--     IsMultiple from align n                     the place n is that of a multiple of `align`, if `from` is the place of the number 0
--     EndsAlike ..                                from a value on all are members exactly if `inside`
--     IsOneOf multiples n                         the same of multiples that have both
--     has_values place count range                the range has at least `count` values
--     first_start order place count members       the start of the first range that has at least `count` values
--     IsFirstFit order place items start end count answer     the start of the first gap that has as many
--     IsLeastFit order value place inside items start end count m fit     the first such values, from one of the multiples on
--     IsFitSearch ..                                what a walk through ranges found
use Rattle.std.specs.Prelude.{◌≡◌, ℕ, ◌%◌, ◌+◌, ◌-◌, ◌<◌, ◌≤◌, nat_le, Bool, true, false, cond, filter, List, Option, Some, None, slice_get}
use Rattle.std.specs.Option.{option_map}
use Rattle.std.specs.declared.cmp.Ordering.{Ordering}
use Rattle.range_merge.specs.Boundaries.{member}
use Rattle.range_merge.specs.Connective.{Means, difference_table}
use Rattle.range_collections.specs.Ranges.{range_items, range_start, ranges_of}
use Rattle.range_collections.specs.declared.countable.multiples.Multiples.{Multiples}
use Rattle.range_collections.specs.declared.countable.value_range.ValueEnds.{ValueEnds}
use Rattle.range_collections.specs.declared.questions.first_fit.Fit.{Fit}
use Rattle.range_collections.specs.declared.questions.first_fit.FitSearch.{FitSearch}
use Rattle.range_collections.specs.declared.questions.first_fit.FitSearch.TheVariants.{Found, Stopped, End}
use Rattle.range_collections.specs.declared.range_set_range.RangeSetRange.{RangeSetRange}
use Rattle.range_collections.specs.declared.range_set_range.RangeSetRange.TheVariants.{Range, RangeFrom}

-- the place after the last value of a range
abbrev pub place_after : {K : Type 0} → (K → ℕ) → ValueEnds K → ℕ
place_after place ends = cond ends.closed (place ends.end + 1) (place ends.end)

-- the range goes from s to below e
abbrev pub IsFromTo : {K : Type 0} → ValueEnds K → K → K → Type 0
IsFromTo ends s e = (ends.start ≡ s) × (ends.end ≡ e) × (ends.closed ≡ false)

-- the place n is a multiple of `align` above or below the place of the number 0
abbrev pub IsMultiple : ℕ → ℕ → ℕ → Type 0
IsMultiple from align n = n % align ≡ from % align

-- the place n is one of those of the multiples
abbrev pub IsOneOf : Multiples → ℕ → Type 0
IsOneOf m n = IsMultiple m.zero m.of n

module _ {K : Type 0} (order : K → K → Ordering) (number : K → ℕ) where
  -- x is at or above the place start, x and `len` together are at or below the place end, and none of
  -- the `len` elements from x on is a member
  pub record Fits (items : List K) (start end : ℕ) (len x : K) : Type 0 where
    pub from : start ≤ number x
    pub up_to : number x + number len ≤ end
    pub free : (y : K) → number x ≤ number y → number y < number x + number len →
        member order items y ≡ false

module _ {K : Type 0} (order : K → K → Ordering) (value : ℕ → K) where
  -- the `count` values from the place `at` on lie at or above the place start and below the place
  -- end, and each is a member exactly if `inside`
  pub record IsFit (inside : Bool) (items : List K) (start end count at : ℕ) : Type 0 where
    pub from : start ≤ at
    pub up_to : at + count ≤ end
    pub alike : (n : ℕ) → at ≤ n → n < at + count → member order items (value n) ≡ inside

-- all values from `from` on, which is at or above start, are members exactly if `inside`, and from no
-- lower one on that is so
pub record EndsAlike {K : Type 0} (order : K → K → Ordering) (value : ℕ → K) (place : K → ℕ) (total : ℕ)
    (inside : Bool) (items : List K) (start from : K) : Type 0 where
  pub low : place start ≤ place from
  pub alike : (n : ℕ) → place from ≤ n → n < total → member order items (value n) ≡ inside
  pub least : (n : ℕ) → place start ≤ n → ((k : ℕ) → n ≤ k → k < total → member order items (value k) ≡ inside) → place from ≤ n

module _ {K : Type 0} (order : K → K → Ordering) (place : K → ℕ) where
  abbrev pub has_values : ℕ → RangeSetRange K → Bool
  has_values count (Range r) = nat_le count (place r.end - place r.start)
  has_values count (RangeFrom r) = true

  -- the start of the first range of the list that has at least `count` values
  abbrev pub first_start : ℕ → List K → Option K
  first_start count members = option_map range_start (slice_get (filter (has_values count) (ranges_of members)) 0)

  -- of the gaps of the set from start to below end, the first one with at least `count` values
  -- starts there, if there is one
  pub record IsFirstFit (items : List K) (start end : K) (count : ℕ) (answer : Option K) : Type 0 where
    pub gaps : List K
    pub are_gaps : Means order difference_table gaps (range_items order start end) items
    pub first : answer ≡ first_start count gaps

-- the walk didn't stop between ranges
abbrev pub IsWhole : {K : Type 0} → FitSearch K → Type 0
IsWhole (Stopped end most) = ⊥
IsWhole _ = Unit {0}

-- what it found
abbrev pub fit_of : {K : Type 0} → FitSearch K → Option (Fit K)
fit_of (Found r) = Some r
fit_of _ = None

module _ {K : Type 0} (order : K → K → Ordering) (value : ℕ → K) (place : K → ℕ) where
  -- the first `count` values in a row, from one of the multiples on, which lie at or above the place
  -- start and below the place end, and are members exactly if `inside`
  pub record IsLeastFit (inside : Bool) (items : List K) (start end count : ℕ) (m : Multiples) (r : Fit K) : Type 0 where
    pub fit : IsFit order value inside items start end count r.place
    pub aligned : IsOneOf m r.place
    pub least : (at : ℕ) → IsOneOf m at → IsFit order value inside items start end count at → r.place ≤ at
    pub begins : m.of ≡ 1 → place r.start ≡ r.place

  -- what a walk through a list of ranges found, where there are `total` values
  module _ (total : ℕ) where
    -- a walk stopped at the end of a range: what is longer than `most` begins there or above, and so
    -- do `count` values from one of the multiples on
    pub record IsStopped (members : List K) (count : ℕ) (m : Multiples) (end : K) (most : ℕ) : Type 0 where
      pub longer : (n at : ℕ) → most < n → IsFit order value true members 0 total n at → place end ≤ at
      pub above : (at : ℕ) → IsOneOf m at → IsFit order value true members 0 total count at → place end ≤ at
      pub last : IsFit order value true members 0 total 1 (place end - 1)
      pub positive : 0 < place end

    -- what a walk found that looked for `count` values in a row
    abbrev pub IsFitSearch : List K → ℕ → Multiples → FitSearch K → Type 0
    IsFitSearch members count m (Found r) = IsLeastFit true members 0 total count m r
    IsFitSearch members count m (Stopped end most) = IsStopped members count m end most
    IsFitSearch members count m End = (at : ℕ) → IsOneOf m at → ¬ (IsFit order value true members 0 total count at)

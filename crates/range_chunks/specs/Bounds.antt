-- What a step of a search for the first fit found, and what is remembered of gaps for the next one.
--     IsStep order value place items start end count m step   what one step of a search found
--     is_apart place from to b                            no value of which the bound speaks lies in the range
--     are_among m others                              the multiples are among the other ones
--     excludes count m b                              `count` values in a row from one of the multiples on are more than the bound allows
--     IsBound ..                                          no free stretch within some ends is longer than the bound says
use Rattle.std.specs.Prelude.{◌≡◌, ℕ, ◌%◌, ◌<◌, ◌≤◌, ◌||◌, ◌&&◌, Bool, true, false, List, nat_lt, nat_le, nat_eq}
use Rattle.std.specs.declared.cmp.Ordering.{Ordering}
use Rattle.range_merge.specs.Boundaries.{member}
use Rattle.range_collections.specs.Fits.{IsLeastFit, IsOneOf, IsFit}
use Rattle.range_collections.specs.declared.countable.multiples.Multiples.{Multiples}
use Rattle.range_chunks.specs.declared.gap_bound.GapBound.{GapBound}
use Rattle.range_chunks.specs.declared.space.fitting.SearchStep.{SearchStep}
use Rattle.range_chunks.specs.declared.space.fitting.SearchStep.TheVariants.{At, From, Nowhere}

-- the values from one place on, up to another, which is out, lie outside of the bound's
abbrev pub is_apart : {K : Type 0} → (K → ℕ) → ℕ → ℕ → GapBound K → Bool
is_apart place from to b = nat_lt (place b.end) from || nat_le to (place b.start)

-- multiples of a number that another one divides are among that one's, if both are counted from the same place
abbrev pub are_among : Multiples → Multiples → Bool
are_among m others = (nat_eq others.of m.of || (nat_lt 0 others.of && nat_eq (m.of % others.of) 0)) && nat_eq others.zero m.zero

-- `count` values in a row from one of the multiples on are more than the bound allows
abbrev pub excludes : {K : Type 0} → ℕ → Multiples → GapBound K → Bool
excludes count m b = nat_lt b.most count || (nat_le b.count count && are_among m b.multiples)

module _ {K : Type 0} (order : K → K → Ordering) (value : ℕ → K) (place : K → ℕ) where
  -- `count` values in a row that are free from one of the multiples on begin at x or above, which
  -- is past the start
  pub record IsPast (items : List K) (start end : K) (count : ℕ) (m : Multiples) (x : K) : Type 0 where
    pub past : place start < place x
    pub above : (at : ℕ) → IsOneOf m at → IsFit order value false items (place start) (place end) count at → place x ≤ at

  -- what one step of a search found
  abbrev pub IsStep : List K → K → K → ℕ → Multiples → SearchStep K → Type 0
  IsStep items start end count m (At r) = IsLeastFit order value place false items (place start) (place end) count m r
  IsStep items start end count m (From x) = IsPast items start end count m x
  IsStep items start end count m Nowhere =
      (at : ℕ) → IsOneOf m at → ¬ (IsFit order value false items (place start) (place end) count at)

  -- between start and end no more values in a row are free than the bound says, and the end is
  -- taken, so that none of them reaches past it
  pub record IsBound (total : ℕ) (items : List K) (b : GapBound K) : Type 0 where
    pub most : (n at : ℕ) → IsFit order value false items (place b.start) (place b.end) n at → n ≤ b.most
    pub aligned : (at : ℕ) → IsOneOf b.multiples at → ¬ (IsFit order value false items (place b.start) (place b.end) b.count at)
    pub closed : member order items (value (place b.end)) ≡ true
    pub ordered : place b.start ≤ place b.end
    pub within : place b.end < total

-- The ranges of a set.
--     ranges_of items             items 2i and 2i+1 as a range, and a last single item as a range without an end
--     range_items order start end     the boundaries of a range of two ends
--     range_boundaries order range    the boundaries of a range
--     range_now range             the range of elements, for a range of references to them
use Rattle.std.specs.Prelude.{◌≡◌, true, cond, List, [], ◌∷◌}
use Rattle.std.specs.Ordering.{is_le, is_lt}
use Rattle.std.specs.Borrow.{Bor}
use Rattle.std.specs.declared.cmp.Ordering.{Ordering}
use Rattle.std.specs.declared.cmp.Ordering.TheVariants.{Less, Equal}
use Rattle.std.specs.declared.ops.Bound.{Bound}
use Rattle.std.specs.declared.ops.Bound.TheVariants.{Included, Excluded, Unbounded}
use Rattle.range_collections.specs.declared.range_set_range.RangeSetRange.{RangeSetRange}
use Rattle.range_collections.specs.declared.range_set_range.RangeSetRange.TheVariants.{Range, RangeFrom}

-- the ranges of a list of boundaries
abbrev pub ranges_of : {K : Type 0} → List K → List (RangeSetRange K)
ranges_of [] = []
ranges_of (x ∷ []) = RangeFrom (record { start = x }) ∷ []
ranges_of (x ∷ y ∷ rest) = Range (record { start = x; end = y }) ∷ ranges_of rest

-- the range of what the references point to
abbrev pub range_now : {K : Type 0} → RangeSetRange (Bor K) → RangeSetRange K
range_now (Range r) = Range (record { start = r.start.now; end = r.end.now })
range_now (RangeFrom r) = RangeFrom (record { start = r.start.now })

-- the bound of what the reference points to
abbrev pub bound_now : {K : Type 0} → Bound (Bor K) → Bound K
bound_now (Included x) = Included x.now
bound_now (Excluded x) = Excluded x.now
bound_now Unbounded = Unbounded

-- where a range starts
abbrev pub range_start : {K : Type 0} → RangeSetRange K → K
range_start (Range r) = r.start
range_start (RangeFrom r) = r.start

-- where a range ends, if it does
abbrev pub range_end : {K : Type 0} → RangeSetRange K → Bound K
range_end (Range r) = Excluded r.end
range_end (RangeFrom r) = Unbounded

-- both ranges have an end or neither has, and R holds of their starts and of their ends
abbrev pub AllEndsZip : {K : Type 0} → (K → K → Type 0) → RangeSetRange K → RangeSetRange K → Type 0
AllEndsZip R (Range r) (Range s) = R r.start s.start × R r.end s.end
AllEndsZip R (RangeFrom r) (RangeFrom s) = R r.start s.start
AllEndsZip R _ _ = ⊥

-- both ranges have an end or neither has, and each end of one is equal to that of the other
abbrev pub IsEqualRange : {K : Type 0} → (K → K → Ordering) → RangeSetRange K → RangeSetRange K →
    Type 0
IsEqualRange order = AllEndsZip (λ x y. order x y ≡ Equal)

-- P holds of each end of the range
abbrev pub AllEnds : {K : Type 0} → (K → Type 0) → RangeSetRange K → Type 0
AllEnds P (Range r) = P r.start × P r.end
AllEnds P (RangeFrom r) = P r.start

-- the boundaries of a range of two ends: none where its start isn't below its end
abbrev pub range_items : {K : Type 0} → (K → K → Ordering) → K → K → List K
range_items order start end = cond (is_lt (order start end)) (start ∷ end ∷ []) []

-- the boundaries of a range
abbrev pub range_boundaries : {K : Type 0} → (K → K → Ordering) → RangeSetRange K → List K
range_boundaries order (Range r) = range_items order r.start r.end
range_boundaries order (RangeFrom r) = r.start ∷ []

-- the ends of a range
abbrev pub range_ends : {K : Type 0} → RangeSetRange K → List K
range_ends (Range r) = r.start ∷ r.end ∷ []
range_ends (RangeFrom r) = r.start ∷ []

-- the element lies in the range
abbrev pub IsInRange : {K : Type 0} → (K → K → Ordering) → RangeSetRange K → K → Type 0
IsInRange order (Range r) x = (is_le (order r.start x) ≡ true) × (order x r.end ≡ Less)
IsInRange order (RangeFrom r) x = is_le (order r.start x) ≡ true

-- the range has an end, and it is below the start of the other
abbrev pub EndsBelow : {K : Type 0} → (K → K → Ordering) → RangeSetRange K → RangeSetRange K →
    Type 0
EndsBelow order (Range r) s = order r.end (range_start s) ≡ Less
EndsBelow order (RangeFrom r) s = ⊥

-- How ranges in any order become one set; contracts of private functions use these words.
--     pairs_of starts ends                    the ranges from the first start to the first end, and so on
--     starts_of order ranges, ends_of order ranges    where the ranges that have elements start, and end
--     NoneStartsAbove order items x           no range of the set starts above x
--     EndsBefore order touches items x        the set ends at x, or else below it
--     GivesOwn, IsAddedOwn                    what an answer to a union, and to an addition, is without copies
--     IsUnderway order room ranges list starts ends   a list, and what was put aside, of the ranges
--     IsUnderwayByCopies                      the same of copies of the ranges
--     IsRangeAdded order room range ..        what an addition of a range to these answers
use Rattle.std.specs.Prelude.{◌≡◌, ℕ, ◌-◌, ◌*◌, ◌<◌, ◌≤◌, ⊤, Bool, true, false, All, List, [], ◌∷◌, ◌++◌, length, take, drop, slice_index_or, Result, Ok, IsOk, OnOk}
use Rattle.std.specs.List.{AllZip, HoldsAt, flat_map}
use Rattle.std.specs.Ordering.{is_le}
use Rattle.std.specs.declared.alloc.AllocError.{AllocError}
use Rattle.std.specs.declared.cmp.Ordering.{Ordering}
use Rattle.std.specs.declared.cmp.Ordering.TheVariants.{Less, Equal}
use Rattle.range_merge.specs.Boundaries.{is_odd}
use Rattle.range_collections.specs.Ranges.{range_boundaries, range_start}
use Rattle.range_collections.specs.Unions.{GivesUnion, IsAdded, is_in_one}
use Rattle.range_collections.specs.declared.range_set.many_ranges.Aside.{Aside}
use Rattle.range_collections.specs.declared.range_set_range.RangeSetRange.{RangeSetRange}
use Rattle.range_collections.specs.declared.range_set_range.RangeSetRange.TheVariants.{Range, RangeFrom}

-- the ranges from the first start to the first end, from the second to the second, and so on; a
-- start for which no end is left has a range without one
abbrev pub pairs_of : {K : Type 0} → List K → List K → List (RangeSetRange K)
pairs_of [] ends = []
pairs_of (s ∷ starts) [] = RangeFrom (record { start = s }) ∷ pairs_of starts []
pairs_of (s ∷ starts) (e ∷ ends) = Range (record { start = s; end = e }) ∷ pairs_of starts ends

module _ {K : Type 0} (order : K → K → Ordering) where
  -- where the ranges that have elements start
  abbrev pub starts_of : List (RangeSetRange K) → List K
  starts_of ranges = flat_map (λ range. take 1 (range_boundaries order range)) ranges

  -- where those of them end that have an end
  abbrev pub ends_of : List (RangeSetRange K) → List K
  ends_of ranges = flat_map (λ range. drop 1 (range_boundaries order range)) ranges

  -- no range of the set with these boundaries starts above the element
  abbrev pub NoneStartsAbove : List K → K → Type 0
  NoneStartsAbove items x =
      (i : ℕ) (d : K) → 2 * i < length items → is_le (order (slice_index_or items (2 * i) d) x) ≡ true

  -- the set with these boundaries ends at the element if `touches`, and else below it
  pub record EndsBefore (touches : Bool) (items : List K) (at : K) : Type 0 where
    pub even : is_odd (length items) ≡ false
    pub below : touches ≡ false → All (λ y. order y at ≡ Less) items
    pub last : touches ≡ true → (0 < length items) ×
        HoldsAt (λ y. order y at ≡ Equal) items (length items - 1)

  -- the answer has the union of the ranges: of equal boundaries the first
  abbrev pub GivesOwn : ℕ → List (RangeSetRange K) → Result (List K) AllocError → Type 0
  GivesOwn room ranges r =
      GivesUnion order (λ x y. x ≡ y) (λ _. ⊤) (range_boundaries order) room ranges r

  -- what is answered where the items of a list b are added to a list a
  abbrev pub IsAddedOwn : ℕ → List K → List K → List K → Result (Unit {0}) AllocError → Type 0
  IsAddedOwn room a b new r = IsAdded order (λ x y. x ≡ y) (λ _. ⊤) room a b new r

  -- the list has the union of the ranges in front, and those behind are put aside; if any of these
  -- has elements, all of them have more boundaries than there is room for
  pub record IsUnderway (room : ℕ) (ranges : List (RangeSetRange K))
      (list starts ends : List K) : Type 0 where
    pub front : List (RangeSetRange K)
    pub back : List (RangeSetRange K)
    pub are : ranges ≡ front ++ back
    pub union : GivesOwn room front (Ok list)
    pub starts_are : starts ≡ starts_of back
    pub ends_are : ends ≡ ends_of back
    pub many : 0 < length starts → room < length (flat_map (range_boundaries order) ranges)

  -- the same of copies of those of the ranges that have elements
  pub record IsUnderwayByCopies (is_copy : K → K → Type 0) (room : ℕ)
      (ranges : List (RangeSetRange K)) (list starts ends : List K) : Type 0 where
    pub copies : List (RangeSetRange K)
    pub items : AllZip is_copy (flat_map (range_boundaries order) ranges)
        (flat_map (range_boundaries order) copies)
    pub members : (x : K) → is_in_one order (range_boundaries order) copies x
        ≡ is_in_one order (range_boundaries order) ranges x
    pub underway : IsUnderway room copies list starts ends

  -- what is answered where a range is added to a list and to what was put aside: an Ok has both of
  -- the ranges with this one; it is one where the boundaries of all have room; and a range that
  -- comes in order isn't put aside
  pub record IsRangeAdded (room : ℕ) (range : RangeSetRange K) (list : List K) (aside : Aside K)
      (new_list : List K) (new_aside : Aside K) (r : Result (Unit {0}) AllocError) : Type 0 where
    pub underway : (ranges : List (RangeSetRange K)) →
        IsUnderway room ranges list aside.starts.items aside.ends.items → OnOk r (IsUnderway room
        (ranges ++ range ∷ []) new_list new_aside.starts.items new_aside.ends.items)
    pub succeeds : (ranges : List (RangeSetRange K)) →
        IsUnderway room ranges list aside.starts.items aside.ends.items →
        length (flat_map (range_boundaries order) (ranges ++ range ∷ [])) ≤ room → IsOk r
    pub in_order : length aside.starts.items ≡ 0 → NoneStartsAbove list (range_start range) →
        new_aside ≡ aside

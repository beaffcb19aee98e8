-- The union of many parts, each of which has boundaries, as a set or a range does.
--     is_in_one order boundaries parts x          x is a member of one of the parts at least
--     IsUnionOf order boundaries parts items      the one list whose members are those of the parts
--     AreCopiesOfFirst order is_copy list items   each is a copy of the first item of the list that equals it
--     GivesUnion order is_copy is_infallible boundaries room parts r    what a union of parts answers
--     IsJoined order room a b r                   what is answered where a list b is added to a list a
--     IsAdded order is_copy is_infallible room a b new r    what is answered where copies of a list b are added to a list a
use Rattle.std.specs.Prelude.{◌≡◌, refl, ℕ, ◌+◌, ◌≤◌, Bool, cond, [], ◌∷◌, All, List, Some, filter, slice_get, length, Result, IsOk, IfOk, OnOk}
use Rattle.std.specs.List.{AllZip, flat_map, list_any}
use Rattle.std.specs.Ordering.{is_eq, is_lt}
use Rattle.std.proofs.Common.{arith}
use Rattle.std.proofs.lemmas.List.Elements.{All-nil, All-cons}
use Rattle.std.proofs.lemmas.List.Kept.{AllPairs-cons}
use Rattle.std.specs.declared.alloc.AllocError.{AllocError}
use Rattle.std.specs.declared.cmp.Ordering.{Ordering}
use Rattle.std.specs.declared.cmp.Ordering.TheVariants.{Less, Equal, Greater}
use Rattle.range_merge.specs.Boundaries.{IsAscending, member}
use Rattle.range_merge.specs.Connective.{Means, union_table}
use Rattle.range_collections.specs.InPlace.{AreOwnElseOf}
use Rattle.range_collections.specs.Ranges.{range_boundaries}
use Rattle.range_collections.specs.declared.range_set_range.RangeSetRange.{RangeSetRange}
use Rattle.range_collections.specs.declared.range_set_range.RangeSetRange.TheVariants.{Range, RangeFrom}

module _ {K : Type 0} (order : K → K → Ordering) where
  -- each item is a copy of the first item of the list that equals it
  abbrev pub AreCopiesOfFirst : (K → K → Type 0) → List K → List K → Type 0
  AreCopiesOfFirst is_copy list items =
      All (λ x. (z : K) × (slice_get (filter (λ y. is_eq (order x y)) list) 0 ≡ Some z)
      × is_copy z x) items

  -- a list to which another was added: it means the union, with the first one's items where both
  -- have them; and it is an Ok where the items of both have room
  pub record IsJoined (room : ℕ) (a b : List K) (r : Result (List K) AllocError) : Type 0 where
    pub means : IfOk r (λ items. Means order union_table items a b)
    pub left_own_item : IfOk r (λ items. AreOwnElseOf order a b items)
    pub succeeds : length a + length b ≤ room → IsOk r

  -- a list that was changed from a to new by adding copies of the items of b: it means the union
  -- with the copies, with a's own items where both have them; and it is an Ok where the items of
  -- both have room and no copy is refused
  pub record IsAdded (is_copy : K → K → Type 0) (is_infallible : K → Type 0) (room : ℕ)
      (a b new : List K) (r : Result (Unit {0}) AllocError) : Type 0 where
    pub added : OnOk r ((copies : List K) × AllZip is_copy b copies
        × Means order union_table new a copies × AreOwnElseOf order a copies new)
    pub succeeds : length a + length b ≤ room → All is_infallible b → IsOk r

  module _ {P : Type 0} (boundaries : P → List K) (parts : List P) where
    -- x is a member of one of the parts at least
    abbrev pub is_in_one : K → Bool
    is_in_one x = list_any (λ part. member order (boundaries part) x) parts

    -- the items are strictly sorted, and their members are those of the parts
    pub record IsUnionOf (items : List K) : Type 0 where
      pub sorted : IsAscending order items
      pub members : (x : K) → member order items x ≡ is_in_one x

  -- an answer to a union of parts: an Ok has the members of the parts; of boundaries of theirs that
  -- are equal it has a copy of the first, and no more items than they have together; and it is an
  -- Ok where these have room and no copy of one is refused
  pub record GivesUnion (is_copy : K → K → Type 0) (is_infallible : K → Type 0) {P : Type 0}
      (boundaries : P → List K) (room : ℕ) (parts : List P)
      (r : Result (List K) AllocError) : Type 0 where
    pub means : IfOk r (λ items. IsUnionOf boundaries parts items)
    pub first_own_item : IfOk r (λ items.
        AreCopiesOfFirst is_copy (flat_map boundaries parts) items)
    pub at_most : IfOk r (λ items. length items ≤ length (flat_map boundaries parts))
    pub succeeds : length (flat_map boundaries parts) ≤ room →
        All is_infallible (flat_map boundaries parts) → IsOk r

  IsAscending-nil : IsAscending order []
  IsAscending-nil i j d below within = absurd (omega arith)

  IsAscending-one : (x : K) → IsAscending order (x ∷ [])
  IsAscending-one x =
      AllPairs-cons (λ x y. order x y ≡ Less) x [] (All-nil (λ y. order x y ≡ Less))
      (IsAscending-nil)

  IsAscending-two : (x y : K) (v : Ordering) → order x y ≡ v →
      IsAscending order (cond (is_lt v) (x ∷ y ∷ []) [])
  IsAscending-two x y Less e =
      AllPairs-cons (λ x y. order x y ≡ Less) x (y ∷ [])
      (All-cons (λ z. order x z ≡ Less) y [] e (All-nil (λ z. order x z ≡ Less)))
      (IsAscending-one y)
  IsAscending-two x y Equal e = IsAscending-nil
  IsAscending-two x y Greater e = IsAscending-nil

  -- the boundaries of a range are strictly sorted
  pub IsAscending-range : (range : RangeSetRange K) →
      IsAscending order (range_boundaries order range)
  IsAscending-range (Range r) = IsAscending-two r.start r.end (order r.start r.end) refl
  IsAscending-range (RangeFrom r) = IsAscending-one r.start

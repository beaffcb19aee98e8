-- Ranges that become one set: some are in it, others are put aside.
use Rattle.std.proofs.Common.{◌≡◌, ◌⊎◌, inl, inr, refl, sym, ap, ap₂, ◌∙◌, subst, ℕ, ◌+◌, ◌<◌, ◌≤◌, Bool, true, false, cond, ◌||◌, List, [], ◌∷◌, ◌++◌, length, get_or, take, drop, arith, All, Some, true≢false, Result, Ok, Err, IsErr, IfSome, OnOk, None, Option, append_assoc, length-append}
use Rattle.std.specs.Prelude.{⊤, filter, slice_get}
use Rattle.std.specs.Cmp.{IsTotalOrder}
use Rattle.std.specs.List.{AllZip, flat_map}
use Rattle.std.specs.Option.{option_to_list}
use Rattle.std.specs.Ordering.{is_eq, is_lt}
use Rattle.std.specs.declared.alloc.AllocError.{AllocError}
use Rattle.std.specs.declared.cmp.Ordering.{Ordering}
use Rattle.std.specs.declared.cmp.Ordering.TheVariants.{Less, Equal, Greater}
use Rattle.std.proofs.lemmas.Bool.{cases_lt}
use Rattle.std.proofs.lemmas.Cmp.{alike_right}
use Rattle.std.proofs.lemmas.Grind.{flat_map-append}
use Rattle.std.proofs.lemmas.List.{append-nil, take_more, take-append-drop}
use Rattle.std.proofs.lemmas.List.Elements.{All-head, All-tail, length_all_zip}
use Rattle.std.proofs.lemmas.List.Folds.{list_any-append}
use Rattle.range_merge.specs.Boundaries.{member}
use Rattle.range_merge.proofs.Members.{member-nil}
use Rattle.range_merge.proofs.Orders.{Equal-self}
use Rattle.range_merge.proofs.SameSet.{IsSameSet-from_items}
use Rattle.range_collections.specs.ManyRanges.{GivesOwn, IsAddedOwn, IsUnderway, IsUnderwayByCopies, ends_of, pairs_of, starts_of}
use Rattle.range_collections.specs.Ranges.{AllEnds, AllEndsZip, range_boundaries}
use Rattle.range_collections.specs.Unions.{GivesUnion, IsAscending-range, IsJoined, is_in_one}
use Rattle.range_collections.specs.declared.range_set_range.RangeSetRange.{RangeSetRange}
use Rattle.range_collections.specs.declared.range_set_range.RangeSetRange.TheVariants.{Range, RangeFrom}
use Rattle.range_collections.proofs.FirstParts.{All-front, All-back}
use Rattle.range_collections.proofs.ManyRanges.{IsAdded-none, Less-copies, range_is}
use Rattle.range_collections.proofs.Unions.{GivesUnion-joined, GivesUnion-none, GivesUnion-one, copies_are_equal, length-halves}

or-false : (b : Bool) → (b || false) ≡ b
or-false true = refl
or-false false = refl

pub nil-from_length : {X : Type 0} (xs : List X) → length xs ≡ 0 → xs ≡ []
nil-from_length [] h = refl
nil-from_length (x ∷ xs) h = absurd (omega (arith, h))

append-neither : {X : Type 0} (xs ys : List X) → xs ++ ys ≡ [] → (xs ≡ []) × (ys ≡ [])
append-neither xs ys h =
    let none : length xs + length ys ≡ 0 = sym (length-append xs ys) ∙ ap length h in
    (nil-from_length xs (omega (arith, none)), nil-from_length ys (omega (arith, none)))

nil-from_take : {X : Type 0} (xs : List X) → take 1 xs ≡ [] → xs ≡ []
nil-from_take [] h = refl
nil-from_take (x ∷ xs) h = absurd (let no : 1 ≡ 0 = ap length h in omega (arith, no))

length-parts : {X : Type 0} (xs : List X) → length xs ≡ length (take 1 xs) + length (drop 1 xs)
length-parts [] = refl
length-parts (x ∷ xs) = omega arith

flat_map-push : {X A : Type 0} (f : X → List A) (xs : List X) (x : X) → flat_map f (xs ++ x ∷ []) ≡ flat_map f xs ++ f x
flat_map-push f xs x = flat_map-append f xs (x ∷ []) ∙ ap (λ l. flat_map f xs ++ l) (append-nil (f x))

length-push : {X A : Type 0} (f : X → List A) (xs : List X) (x : X) → length (flat_map f (xs ++ x ∷ [])) ≡ length (flat_map f xs) + length (f x)
length-push f xs x = ap length (flat_map-push f xs x) ∙ length-append (flat_map f xs) (f x)

AllZip-append : {X : Type 0} (R : X → X → Type 0) (xs ys us vs : List X) → AllZip R xs ys → AllZip R us vs → AllZip R (xs ++ us) (ys ++ vs)
AllZip-append R [] [] us vs h k = k
AllZip-append R [] (y ∷ ys) us vs h k = absurd h
AllZip-append R (x ∷ xs) [] us vs h k = absurd h
AllZip-append R (x ∷ xs) (y ∷ ys) us vs h k = (h.0, AllZip-append R xs ys us vs h.1 k)

head_zip : {X : Type 0} (R : X → X → Type 0) (xs ys : List X) (z : X) → AllZip R xs ys → slice_get ys 0 ≡ Some z →
    (w : X) × (slice_get xs 0 ≡ Some w) × R w z
head_zip R [] [] z h e = absurd (cc)
head_zip R [] (y ∷ ys) z h e = absurd h
head_zip R (x ∷ xs) [] z h e = absurd h
head_zip R (x ∷ xs) (y ∷ ys) z h e = (x, refl, subst (λ s. IfSome s (λ t. R x t)) e h.0)

cond_zip : {X : Type 0} (R : X → X → Type 0) (s t : Bool) (x y : X) (xs ys : List X) → s ≡ t → R x y → AllZip R xs ys → AllZip R (cond s (x ∷ xs) xs) (cond t (y ∷ ys) ys)
cond_zip R true true x y xs ys e r h = (r, h)
cond_zip R false false x y xs ys e r h = h
cond_zip R true false x y xs ys e r h = absurd (true≢false e)
cond_zip R false true x y xs ys e r h = absurd (true≢false (sym e))

pub All-unit : {X : Type 0} (xs : List X) → All (λ x. ⊤) xs
All-unit xs = λ k d within. tt

-- what follows from a test that fails
pub no_room : (n room : ℕ) (t : Bool) → (n < room → t ≡ true) → t ≡ false → room ≤ n
no_room n room t h f =
    elim (cases_lt n room) as (λ _. room ≤ n) [ inl less ↦ absurd (true≢false (sym (h less) ∙ f)) | inr far ↦ omega (arith, far) ]

pub some_left : {X : Type 0} (xs : List X) (t : Bool) → (length xs ≡ 0 → t ≡ true) → t ≡ false → 0 < length xs
some_left [] t h f = absurd (true≢false (sym (h refl) ∙ f))
some_left (x ∷ xs) t h f = omega arith

-- the first of the pairs
pub pairs_next : {K : Type 0} (s : K) (ss : List K) (r : Option K) (es rest : List K) (range : RangeSetRange K) → es ≡ option_to_list r ++ rest → (r ≡ None → es ≡ []) →
    range ∷ [] ≡ pairs_of (s ∷ []) (option_to_list r) → pairs_of (s ∷ ss) es ≡ range ∷ pairs_of ss rest
pairs_next s ss (Some e) es rest range whole none is = ap (λ l. pairs_of (s ∷ ss) l) whole ∙ sym (ap (λ l. l ++ pairs_of ss rest) is)
pairs_next s ss None es rest range whole none is =
    ap (λ l. pairs_of (s ∷ ss) l) (none refl)
    ∙ ap (λ l. RangeFrom (record { start = s }) ∷ pairs_of ss l) (sym (none refl) ∙ whole)
    ∙ sym (ap (λ l. l ++ pairs_of ss rest) is)

module _ {K : Type 0} (order : K → K → Ordering) where
  -- the ends of a range that has boundaries are these
  by_ends : (G : Type 0) (start end : K) (v : Ordering) → order start end ≡ v → 0 < length (cond (is_lt v) (start ∷ end ∷ []) []) → (order start end ≡ Less → G) → G
  by_ends G start end Less e some f = f e
  by_ends G start end Equal e some f = absurd (omega (arith, some))
  by_ends G start end Greater e some f = absurd (omega (arith, some))

  pub AllEnds-from_boundaries : (P : K → Type 0) (range : RangeSetRange K) → 0 < length (range_boundaries order range) → All P (range_boundaries order range) → AllEnds P range
  AllEnds-from_boundaries P (RangeFrom r) some h = All-head P r.start [] h
  AllEnds-from_boundaries P (Range r) some h =
      by_ends (P r.start × P r.end) r.start r.end (order r.start r.end) refl some
      (λ less.
      let both : All P (r.start ∷ r.end ∷ []) = subst (λ v. All P (cond (is_lt v) (r.start ∷ r.end ∷ []) [])) less h in
      (All-head P r.start (r.end ∷ []) both, All-head P r.end [] (All-tail P r.start (r.end ∷ []) both)))

module _ {K : Type 0} {order : K → K → Ordering} (o : IsTotalOrder order) where
  pub zip_copies : (is_copy : K → K → Type 0) → ((x y : K) → is_copy x y → order x y ≡ Equal) → (range copy : RangeSetRange K) → 0 < length (range_boundaries order range) →
      AllEndsZip is_copy range copy → AllZip is_copy (range_boundaries order range) (range_boundaries order copy)
  zip_copies is_copy equal (RangeFrom r) (RangeFrom s) some h = (h, tt)
  zip_copies is_copy equal (RangeFrom r) (Range s) some h = absurd h
  zip_copies is_copy equal (Range r) (RangeFrom s) some h = absurd h
  zip_copies is_copy equal (Range r) (Range s) some h =
      by_ends order (AllZip is_copy (range_boundaries order (Range r)) (range_boundaries order (Range s))) r.start r.end (order r.start r.end) refl some
      (λ less.
      subst (λ xs. AllZip is_copy xs (range_boundaries order (Range s))) (sym (range_is o r.start r.end less))
      (subst (λ ys. AllZip is_copy (r.start ∷ r.end ∷ []) ys)
      (sym (range_is o s.start s.end (Less-copies o r.start r.end s.start s.end (equal r.start s.start h.0) (equal r.end s.end h.1) less)))
      (h.0, (h.1, tt))))

  pub equal-own : (x y : K) → x ≡ y → order x y ≡ Equal
  equal-own x y e = subst (λ z. order x z ≡ Equal) e (Equal-self o x)

  module _ (room : ℕ) where
    pub GivesOwn-none : GivesOwn order room [] (Ok [])
    GivesOwn-none = GivesUnion-none o (λ x y. x ≡ y) (λ x. ⊤) equal-own (range_boundaries order) room [] refl

    pub GivesOwn-added : (front : List (RangeSetRange K)) (range : RangeSetRange K) (list new : List K) → GivesOwn order room front (Ok list) →
        IsAddedOwn order room list (range_boundaries order range) new (Ok tt) → GivesOwn order room (front ++ range ∷ []) (Ok new)
    GivesOwn-added front range list new u h =
        let (copies, z, m, own) = h.added in
        let last : GivesOwn order room (range ∷ []) (Ok copies) =
        GivesUnion-one o (λ x y. x ≡ y) (λ x. ⊤) equal-own (range_boundaries order) room (range ∷ []) range (Ok copies) refl refl (IsAscending-range order range) z (λ _ _. refl) in
        let joins : IsJoined order room list copies (Ok new) = record { means = m; left_own_item = own; succeeds = λ _. refl } in
        GivesUnion-joined o (λ x y. x ≡ y) (λ x. ⊤) equal-own (range_boundaries order) room (IsAscending-range order) (front ++ range ∷ []) front (range ∷ []) list copies (Ok new) refl u last joins

    -- ranges of nothing add nothing
    GivesOwn-nothing : (front back : List (RangeSetRange K)) (list : List K) → starts_of order back ≡ [] → GivesOwn order room front (Ok list) →
        GivesOwn order room (front ++ back) (Ok list)
    GivesOwn-nothing front [] list none u = subst (λ rs. GivesOwn order room rs (Ok list)) (sym (append-nil front)) u
    GivesOwn-nothing front (r ∷ rs) list none u =
        let both = append-neither (take 1 (range_boundaries order r)) (starts_of order rs) none in
        let nothing : range_boundaries order r ≡ [] = nil-from_take (range_boundaries order r) both.0 in
        let one : GivesOwn order room (front ++ r ∷ []) (Ok list) =
        GivesOwn-added front r list list u (IsAdded-none o (λ x y. x ≡ y) (λ x. ⊤) room list (range_boundaries order r) u.means.sorted nothing) in
        subst (λ all. GivesOwn order room all (Ok list)) (append_assoc front (r ∷ []) rs) (GivesOwn-nothing (front ++ r ∷ []) rs list both.1 one)

    ends-none : (back : List (RangeSetRange K)) → starts_of order back ≡ [] → ends_of order back ≡ []
    ends-none [] none = refl
    ends-none (r ∷ rs) none =
        let both = append-neither (take 1 (range_boundaries order r)) (starts_of order rs) none in
        ap₂ (λ us vs. us ++ vs) (ap (drop 1) (nil-from_take (range_boundaries order r) both.0)) (ends-none rs both.1)

    pub underway-none : IsUnderway order room [] [] [] []
    underway-none = record {
      front = [];
      back = [];
      are = refl;
      union = GivesOwn-none;
      starts_are = refl;
      ends_are = refl;
      many = λ some. absurd (omega (arith, some));
    }

    pub underway-all : (ranges : List (RangeSetRange K)) (list starts ends : List K) → IsUnderway order room ranges list starts ends → length starts ≡ 0 →
        GivesOwn order room ranges (Ok list)
    underway-all ranges list starts ends u none =
        subst (λ rs. GivesOwn order room rs (Ok list)) (sym u.are)
        (GivesOwn-nothing u.front u.back list (sym u.starts_are ∙ nil-from_length starts none) u.union)

    pub underway-put : (ranges : List (RangeSetRange K)) (range : RangeSetRange K) (list starts ends new : List K) → IsUnderway order room ranges list starts ends → length starts ≡ 0 →
        IsAddedOwn order room list (range_boundaries order range) new (Ok tt) → IsUnderway order room (ranges ++ range ∷ []) new starts ends
    underway-put ranges range list starts ends new u none h = record {
      front = ranges ++ range ∷ [];
      back = [];
      are = sym (append-nil (ranges ++ range ∷ []));
      union = GivesOwn-added ranges range list new (underway-all ranges list starts ends u none) h;
      starts_are = nil-from_length starts none;
      ends_are = u.ends_are ∙ ends-none u.back (sym u.starts_are ∙ nil-from_length starts none);
      many = λ some. absurd (omega (arith, some, none));
    }

    pub underway-put_on : (ranges : List (RangeSetRange K)) (range : RangeSetRange K) (list starts ends new : List K) (r : Result (Unit {0}) AllocError) →
        IsUnderway order room ranges list starts ends → length starts ≡ 0 → IsAddedOwn order room list (range_boundaries order range) new r →
        OnOk r (IsUnderway order room (ranges ++ range ∷ []) new starts ends)
    underway-put_on ranges range list starts ends new (Ok done) u none h = underway-put ranges range list starts ends new u none h
    underway-put_on ranges range list starts ends new (Err error) u none h = tt

    at_most_front : (ranges : List (RangeSetRange K)) (list starts ends : List K) → IsUnderway order room ranges list starts ends →
        length list ≤ length (flat_map (range_boundaries order) ranges)
    at_most_front ranges list starts ends u = omega (arith, u.union.at_most, length-halves (range_boundaries order) ranges u.front u.back u.are)

    pub underway-aside : (ranges : List (RangeSetRange K)) (range : RangeSetRange K) (list starts ends starts_after ends_after : List K) →
        IsUnderway order room ranges list starts ends → (0 < length starts) ⊎ (room ≤ length list) →
        starts_after ≡ starts ++ take 1 (range_boundaries order range) → ends_after ≡ ends ++ drop 1 (range_boundaries order range) →
        IsUnderway order room (ranges ++ range ∷ []) list starts_after ends_after
    underway-aside ranges range list starts ends starts_after ends_after u full s e = record {
      front = u.front;
      back = u.back ++ range ∷ [];
      are = ap (λ rs. rs ++ range ∷ []) u.are ∙ append_assoc u.front u.back (range ∷ []);
      union = u.union;
      starts_are =
          s ∙ ap (λ l. l ++ take 1 (range_boundaries order range)) u.starts_are ∙ sym (flat_map-push (λ r. take 1 (range_boundaries order r)) u.back range);
      ends_are = e ∙ ap (λ l. l ++ drop 1 (range_boundaries order range)) u.ends_are ∙ sym (flat_map-push (λ r. drop 1 (range_boundaries order r)) u.back range);
      many = λ some. by_room some full;
    }
      where
        all_is : length (flat_map (range_boundaries order) (ranges ++ range ∷ [])) ≡ length (flat_map (range_boundaries order) ranges) + length (range_boundaries order range)
        all_is = length-push (range_boundaries order) ranges range

        starts_is : length starts_after ≡ length starts + length (take 1 (range_boundaries order range))
        starts_is = ap length s ∙ length-append starts (take 1 (range_boundaries order range))

        by_room : 0 < length starts_after → (0 < length starts) ⊎ (room ≤ length list) → room < length (flat_map (range_boundaries order) (ranges ++ range ∷ []))
        by_room some (inl more) = omega (arith, u.many more, all_is)
        by_room some (inr long) =
            elim (cases_lt 0 (length starts)) as (λ _. room < length (flat_map (range_boundaries order) (ranges ++ range ∷ []))) [
              | inl more ↦ omega (arith, u.many more, all_is)
              | inr none ↦
                  omega (
                    arith,
                    none,
                    some,
                    starts_is,
                    all_is,
                    long,
                    length-parts (range_boundaries order range),
                    at_most_front ranges list starts ends u,
                  )
            ]

    pub underway-aside_on : (ranges : List (RangeSetRange K)) (range : RangeSetRange K) (list starts ends starts_after ends_after : List K) (r : Result (Unit {0}) AllocError) →
        IsUnderway order room ranges list starts ends → (0 < length starts) ⊎ (room ≤ length list) →
        OnOk r (starts_after ≡ starts ++ take 1 (range_boundaries order range)) → OnOk r (ends_after ≡ ends ++ drop 1 (range_boundaries order range)) →
        OnOk r (IsUnderway order room (ranges ++ range ∷ []) list starts_after ends_after)
    underway-aside_on ranges range list starts ends starts_after ends_after (Ok done) u full s e = underway-aside ranges range list starts ends starts_after ends_after u full s e
    underway-aside_on ranges range list starts ends starts_after ends_after (Err error) u full s e = tt

    -- where all have room, none is put aside that has elements
    pub room-left : (ranges : List (RangeSetRange K)) (range : RangeSetRange K) (list starts ends : List K) → IsUnderway order room ranges list starts ends →
        length (flat_map (range_boundaries order) (ranges ++ range ∷ [])) ≤ room →
        (length starts ≡ 0) × (length list + length (range_boundaries order range) ≤ room)
    room-left ranges range list starts ends u few =
        let all_is = length-push (range_boundaries order) ranges range in (
          elim (cases_lt 0 (length starts)) as (λ _. length starts ≡ 0) [
            | inl more ↦ absurd (omega (arith, u.many more, few, all_is))
            | inr none ↦ omega (arith, none)
          ],
          omega (arith, few, all_is, at_most_front ranges list starts ends u),
        )

  -- ---- the same of copies
  module _ (is_copy : K → K → Type 0) (equal : (x y : K) → is_copy x y → order x y ≡ Equal) (room : ℕ) where
    pub by_copies-none : IsUnderwayByCopies order is_copy room [] [] [] []
    by_copies-none = record {
      copies = [];
      items = tt;
      members = λ x. refl;
      underway = underway-none room;
    }

    pub by_copies-nothing : (ranges : List (RangeSetRange K)) (range : RangeSetRange K) (list starts ends : List K) → IsUnderwayByCopies order is_copy room ranges list starts ends →
        length (range_boundaries order range) ≡ 0 → IsUnderwayByCopies order is_copy room (ranges ++ range ∷ []) list starts ends
    by_copies-nothing ranges range list starts ends u none = record {
      copies = u.copies;
      items = subst (λ xs. AllZip is_copy xs (flat_map (range_boundaries order) u.copies)) (sym same) u.items;
      members = λ x.
          u.members x
          ∙ sym (list_any-append (λ r. member order (range_boundaries order r) x) ranges (range ∷ [])
          ∙ ap (λ t. is_in_one order (range_boundaries order) ranges x || t) (or-false (member order (range_boundaries order range) x) ∙ ap (λ bs. member order bs x) nothing ∙ member-nil order x)
          ∙ or-false (is_in_one order (range_boundaries order) ranges x));
      underway = u.underway;
    }
      where
        nothing : range_boundaries order range ≡ []
        nothing = nil-from_length (range_boundaries order range) none

        same : flat_map (range_boundaries order) (ranges ++ range ∷ []) ≡ flat_map (range_boundaries order) ranges
        same = flat_map-push (range_boundaries order) ranges range ∙ ap (λ bs. flat_map (range_boundaries order) ranges ++ bs) nothing ∙ append-nil (flat_map (range_boundaries order) ranges)

    pub by_copies-more : (ranges : List (RangeSetRange K)) (range copy : RangeSetRange K) (list starts ends new starts_after ends_after : List K) →
        (u : IsUnderwayByCopies order is_copy room ranges list starts ends) → AllZip is_copy (range_boundaries order range) (range_boundaries order copy) →
        IsUnderway order room (u.copies ++ copy ∷ []) new starts_after ends_after →
        IsUnderwayByCopies order is_copy room (ranges ++ range ∷ []) new starts_after ends_after
    by_copies-more ranges range copy list starts ends new starts_after ends_after u z after = record {
      copies = u.copies ++ copy ∷ [];
      items =
          subst (λ ys. AllZip is_copy (flat_map (range_boundaries order) (ranges ++ range ∷ [])) ys) (sym (flat_map-push (range_boundaries order) u.copies copy))
          (subst (λ xs. AllZip is_copy xs (flat_map (range_boundaries order) u.copies ++ range_boundaries order copy)) (sym (flat_map-push (range_boundaries order) ranges range))
          (AllZip-append is_copy (flat_map (range_boundaries order) ranges) (flat_map (range_boundaries order) u.copies) (range_boundaries order range) (range_boundaries order copy) u.items z));
      members = λ x.
          list_any-append (λ r. member order (range_boundaries order r) x) u.copies (copy ∷ [])
          ∙ ap₂ (λ s t. s || (t || false)) (u.members x) (sym (IsSameSet-from_items o (range_boundaries order range) (range_boundaries order copy) (copies_are_equal o equal (range_boundaries order range) (range_boundaries order copy) z) x))
          ∙ sym (list_any-append (λ r. member order (range_boundaries order r) x) ranges (range ∷ []));
      underway = after;
    }

    pub length-copies : (ranges : List (RangeSetRange K)) (range copy : RangeSetRange K) (list starts ends : List K) →
        (u : IsUnderwayByCopies order is_copy room ranges list starts ends) → AllZip is_copy (range_boundaries order range) (range_boundaries order copy) →
        length (flat_map (range_boundaries order) (u.copies ++ copy ∷ [])) ≡ length (flat_map (range_boundaries order) (ranges ++ range ∷ []))
    length-copies ranges range copy list starts ends u z =
        omega (
          arith,
          length-push (range_boundaries order) u.copies copy,
          length-push (range_boundaries order) ranges range,
          length_all_zip is_copy (flat_map (range_boundaries order) ranges) (flat_map (range_boundaries order) u.copies) u.items,
          length_all_zip is_copy (range_boundaries order range) (range_boundaries order copy) z,
        )

    filter_zip : (v : K) (xs ys : List K) → AllZip is_copy xs ys → AllZip is_copy (filter (λ y. is_eq (order v y)) xs) (filter (λ y. is_eq (order v y)) ys)
    filter_zip v [] [] h = tt
    filter_zip v [] (y ∷ ys) h = absurd h
    filter_zip v (x ∷ xs) [] h = absurd h
    filter_zip v (x ∷ xs) (y ∷ ys) h =
        cond_zip is_copy (is_eq (order v x)) (is_eq (order v y)) x y (filter (λ z. is_eq (order v z)) xs) (filter (λ z. is_eq (order v z)) ys)
        (ap is_eq (alike_right o x y v (equal x y h.0))) h.0 (filter_zip v xs ys h.1)

    pub GivesUnion-by_copies : (is_infallible : K → Type 0) (ranges : List (RangeSetRange K)) (list starts ends : List K) (r : Result (List K) AllocError) →
        (u : IsUnderwayByCopies order is_copy room ranges list starts ends) → GivesOwn order room u.copies r →
        GivesUnion order is_copy is_infallible (range_boundaries order) room ranges r
    GivesUnion-by_copies is_infallible ranges list starts ends (Ok items) u g = record {
      means = record { sorted = g.means.sorted; members = λ x. g.means.members x ∙ u.members x };
      first_own_item = λ k d within.
          let x : K = get_or items k d in
          let (z, first, is) = g.first_own_item k d within in
          let (w, there, copied) =
          head_zip is_copy (filter (λ y. is_eq (order x y)) (flat_map (range_boundaries order) ranges)) (filter (λ y. is_eq (order x y)) (flat_map (range_boundaries order) u.copies)) z
          (filter_zip x (flat_map (range_boundaries order) ranges) (flat_map (range_boundaries order) u.copies) u.items) first in
          (w, there, subst (is_copy w) is copied);
      at_most = omega (
        arith,
        g.at_most,
        length_all_zip is_copy (flat_map (range_boundaries order) ranges) (flat_map (range_boundaries order) u.copies) u.items,
      );
      succeeds = λ _ _. refl;
    }
    GivesUnion-by_copies is_infallible ranges list starts ends (Err error) u g = record {
      means = tt;
      first_own_item = tt;
      at_most = tt;
      succeeds = λ few _.
          g.succeeds
          (omega (
            arith,
            few,
            length_all_zip is_copy (flat_map (range_boundaries order) ranges) (flat_map (range_boundaries order) u.copies) u.items,
          ))
          (All-unit (flat_map (range_boundaries order) u.copies));
    }

    -- where the copies of ranges have room, a range added to some is no more than all of them
    pub some_of_all : (is_infallible : K → Type 0) (ranges : List (RangeSetRange K)) (i : ℕ) (range : RangeSetRange K) → i < length ranges → range ≡ get_or ranges i range →
        length (flat_map (range_boundaries order) ranges) ≤ room → All is_infallible (flat_map (range_boundaries order) ranges) →
        (length (flat_map (range_boundaries order) (take i ranges ++ range ∷ [])) ≤ room) × All is_infallible (range_boundaries order range)
    some_of_all is_infallible ranges i range within is few sure = (
      omega (arith, few, length-halves (range_boundaries order) ranges (take i ranges ++ range ∷ []) rest are),
      All-front is_infallible (range_boundaries order range) (flat_map (range_boundaries order) rest)
          (All-back is_infallible (flat_map (range_boundaries order) (take i ranges)) (flat_map (range_boundaries order) (range ∷ rest))
          (subst (All is_infallible) (ap (flat_map (range_boundaries order)) (are ∙ append_assoc (take i ranges) (range ∷ []) rest) ∙ flat_map-append (range_boundaries order) (take i ranges) (range ∷ rest)) sure)),
    )
      where
        rest : List (RangeSetRange K)
        rest = drop (i + 1) ranges

        are : ranges ≡ (take i ranges ++ range ∷ []) ++ rest
        are =
            sym (take-append-drop (i + 1) ranges)
            ∙ ap (λ front. front ++ rest) (take_more ranges i range within ∙ ap (λ p. take i ranges ++ p ∷ []) (sym is))

    pub take_next : (ranges : List (RangeSetRange K)) (i : ℕ) (range : RangeSetRange K) → i < length ranges → range ≡ get_or ranges i range →
        take (i + 1) ranges ≡ take i ranges ++ range ∷ []
    take_next ranges i range within is = take_more ranges i range within ∙ ap (λ p. take i ranges ++ p ∷ []) (sym is)

    pub GivesUnion-never : (is_infallible : K → Type 0) (ranges : List (RangeSetRange K)) (r : Result (List K) AllocError) → IsErr r →
        (length (flat_map (range_boundaries order) ranges) ≤ room → All is_infallible (flat_map (range_boundaries order) ranges) → ⊥) →
        GivesUnion order is_copy is_infallible (range_boundaries order) room ranges r
    GivesUnion-never is_infallible ranges (Ok items) bad never = absurd (true≢false (sym bad))
    GivesUnion-never is_infallible ranges (Err error) bad never = record {
      means = tt;
      first_own_item = tt;
      at_most = tt;
      succeeds = λ few sure. absurd (never few sure);
    }

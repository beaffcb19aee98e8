-- Of the boundaries of many parts that are equal, the first stays in the union.
--     below_kept                  what is contained at each element is contained just below each element
--     none_equal                  a part of a list has no boundary at a change that the list doesn't have
--     AreCopiesOfFirst-copies     the copies of one ascending list
--     AreCopiesOfFirst-joined     a list to which another was added
use Rattle.std.proofs.Common.{◌≡◌, ◌≢◌, ◌⊎◌, inl, inr, refl, sym, ap, ap₂, ◌∙◌, ℕ, suc, ◌+◌, ◌<◌, Bool, true, false, not, cond, ◌||◌, List, [], ◌∷◌, ◌++◌, length, get_or, arith, All, Contains, Some, true≢false}
use Rattle.std.specs.Prelude.{filter, slice_get}
use Rattle.std.specs.List.{AllZip, flat_map}
use Rattle.std.specs.Cmp.{IsTotalOrder}
use Rattle.std.specs.Ordering.{is_eq, is_le, is_lt}
use Rattle.std.specs.declared.cmp.Ordering.{Ordering}
use Rattle.std.specs.declared.cmp.Ordering.TheVariants.{Less, Equal, Greater}
use Rattle.std.proofs.lemmas.Cmp.{tied_back}
use Rattle.std.proofs.lemmas.List.{get_or_default}
use Rattle.std.proofs.lemmas.List.Elements.{All-nil, All-cons, All-head, All-tail, All-append, All-weaker, All-contains, filter-append}
use Rattle.std.proofs.lemmas.List.Folds.{list_any_at}
use Rattle.range_merge.specs.Boundaries.{IsAscending, is_odd, count_below, count_up_to, member}
use Rattle.range_merge.specs.Connective.{Means, union_table}
use Rattle.range_merge.proofs.Members.{count_up_to-nil, count_below-nil, count_up_to-cons, count_below-cons, by_Ordering}
use Rattle.range_merge.proofs.Orders.{Equal-self, Equal-sym, Less-from_greater, Greater-from_less, Less-then_equal}
use Rattle.range_merge.proofs.Parity.{is_odd-suc}
use Rattle.range_collections.specs.InPlace.{AreOwnElseOf}
use Rattle.range_collections.specs.Sets.{IsSubset}
use Rattle.range_collections.specs.Unions.{IsUnionOf, AreCopiesOfFirst}
use Rattle.range_collections.proofs.Ascending.{IsAscending-head, IsAscending-tail}
use Rattle.range_collections.proofs.CountUpTo.{count_up_to-found}
use Rattle.range_collections.proofs.Cut.{count_below-found}
use Rattle.range_collections.proofs.Shortest.{Less-then_le, le-from_greater, le-trans}

by_truth : {G : Type 0} (b : Bool) → (b ≡ true → G) → (b ≡ false → G) → G
by_truth true on off = on refl
by_truth false on off = off refl

or_true : (p q : Bool) → q ≡ true → (p || q) ≡ true
or_true true q h = refl
or_true false q h = h

pub not_own_opposite : (b : Bool) → b ≡ not b → ⊥
not_own_opposite true h = cc
not_own_opposite false h = cc

slice_get-front : {X : Type 0} (xs ys : List X) (z : X) → slice_get xs 0 ≡ Some z → slice_get (xs ++ ys) 0 ≡ Some z
slice_get-front [] ys z h = cc
slice_get-front (x ∷ xs) ys z h = h

module _ {X : Type 0} (P : X → Type 0) where
  pub All-front : (xs ys : List X) → All P (xs ++ ys) → All P xs
  All-front [] ys h = All-nil P
  All-front (x ∷ xs) ys h = All-cons P x xs (All-head P x (xs ++ ys) h) (All-front xs ys (All-tail P x (xs ++ ys) h))

  pub All-back : (xs ys : List X) → All P (xs ++ ys) → All P ys
  All-back [] ys h = h
  All-back (x ∷ xs) ys h = All-back xs ys (All-tail P x (xs ++ ys) h)

module _ {K : Type 0} {order : K → K → Ordering} (o : IsTotalOrder order) where
  -- whether what lies just below x is a member
  abbrev pub just_below : List K → K → Bool
  just_below xs x = is_odd (count_below order xs x)

  not_below : (x z : K) → is_lt (order z x) ≡ false → is_le (order x z) ≡ true
  not_below x z =
      by_Ordering (order z x)
      (λ l h. absurd (true≢false (sym (ap is_lt l) ∙ h)))
      (λ e h. ap is_le (Equal-sym o z x e))
      (λ g h. ap is_le (Less-from_greater o z x g))

  -- what isn't below x is above what is
  above : (m x z : K) → order m x ≡ Less → is_lt (order z x) ≡ false → is_le (order z m) ≡ false
  above m x z l h = ap is_le (Greater-from_less o m z (Less-then_le o m x z l (not_below x z h)))

  -- m is below x, and no item lies between them
  abbrev Bounds : K → K → List K → Type 0
  Bounds m x xs = All (λ z. order z x ≡ Less → is_le (order z m) ≡ true) xs

  Less-back : (v : Ordering) → is_lt v ≡ true → v ≡ Less
  Less-back Less h = refl
  Less-back Equal h = cc
  Less-back Greater h = cc

  up_from : (m y : K) → is_le (order y m) ≡ false → is_le (order m y) ≡ true
  up_from m y f =
      by_Ordering (order y m) (λ l. absurd (true≢false (sym (ap is_le l) ∙ f))) (λ e. absurd (true≢false (sym (ap is_le e) ∙ f))) (λ g. le-from_greater o y m g)

  -- the highest item below x, if there is one
  abbrev Highest : K → List K → Type 0
  Highest x xs = All (λ z. is_lt (order z x) ≡ false) xs ⊎ ((m : K) × (order m x ≡ Less) × Bounds m x xs)

  itself_above : (x y : K) (ys : List K) → order y x ≡ Less → Bounds y x ys → Highest x (y ∷ ys)
  itself_above x y ys l h = inr (y, l, All-cons (λ z. order z x ≡ Less → is_le (order z y) ≡ true) y ys (λ _. ap is_le (Equal-self o y)) h)

  highest-low : (x y : K) (ys : List K) → order y x ≡ Less → Highest x ys → Highest x (y ∷ ys)
  highest-low x y ys l (inl none) =
      itself_above x y ys l
      (All-weaker (λ z. is_lt (order z x) ≡ false) (λ z. order z x ≡ Less → is_le (order z y) ≡ true) (λ z f k. absurd (true≢false (sym (ap is_lt k) ∙ f))) ys none)
  highest-low x y ys l (inr (m, below, h)) =
      by_truth (is_le (order y m))
      (λ t. inr (m, below, All-cons (λ z. order z x ≡ Less → is_le (order z m) ≡ true) y ys (λ _. t) h))
      (λ f.
      itself_above x y ys l
      (All-weaker (λ z. order z x ≡ Less → is_le (order z m) ≡ true) (λ z. order z x ≡ Less → is_le (order z y) ≡ true)
      (λ z up k. le-trans o z m y (up k) (up_from m y f)) ys h))

  highest-high : (x y : K) (ys : List K) → is_lt (order y x) ≡ false → Highest x ys → Highest x (y ∷ ys)
  highest-high x y ys f (inl none) = inl (All-cons (λ z. is_lt (order z x) ≡ false) y ys f none)
  highest-high x y ys f (inr (m, below, h)) =
      inr (m, below, All-cons (λ z. order z x ≡ Less → is_le (order z m) ≡ true) y ys (λ l. absurd (true≢false (sym (ap is_lt l) ∙ f))) h)

  highest : (x : K) (xs : List K) → Highest x xs
  highest x [] = inl (All-nil (λ z. is_lt (order z x) ≡ false))
  highest x (y ∷ ys) =
      by_truth (is_lt (order y x)) (λ t. highest-low x y ys (Less-back (order y x) t) (highest x ys)) (λ f. highest-high x y ys f (highest x ys))

  below_is_up_to : (m x : K) → order m x ≡ Less → (xs : List K) → Bounds m x xs → count_below order xs x ≡ count_up_to order xs m
  below_is_up_to m x l [] h = count_below-nil order x ∙ sym (count_up_to-nil order m)
  below_is_up_to m x l (y ∷ ys) h =
      count_below-cons order y ys x
      ∙ ap₂ (λ b n. cond b (suc n) n) one (below_is_up_to m x l ys (All-tail (λ z. order z x ≡ Less → is_le (order z m) ≡ true) y ys h))
      ∙ sym (count_up_to-cons order y ys m)
    where
      one : is_lt (order y x) ≡ is_le (order y m)
      one =
          by_Ordering (order y x)
          (λ k. ap is_lt k ∙ sym (All-head (λ z. order z x ≡ Less → is_le (order z m) ≡ true) y ys h k))
          (λ k. ap is_lt k ∙ sym (above m x y l (ap is_lt k)))
          (λ k. ap is_lt k ∙ sym (above m x y l (ap is_lt k)))

  pub below_none : (x : K) (xs : List K) → All (λ z. is_lt (order z x) ≡ false) xs → count_below order xs x ≡ 0
  below_none x [] h = count_below-nil order x
  below_none x (y ∷ ys) h =
      count_below-cons order y ys x
      ∙ ap₂ (λ b n. cond b (suc n) n) (All-head (λ z. is_lt (order z x) ≡ false) y ys h) (below_none x ys (All-tail (λ z. is_lt (order z x) ≡ false) y ys h))

  -- a subset is one just below each element, too
  pub below_kept : (xs ys : List K) → IsSubset order xs ys → (x : K) → just_below xs x ≡ true → just_below ys x ≡ true
  below_kept xs ys sub x h =
      elim (highest x (xs ++ ys)) as (λ _. just_below ys x ≡ true) [
        | inl none ↦ absurd (true≢false (sym h ∙ ap is_odd (below_none x xs (All-front (λ z. is_lt (order z x) ≡ false) xs ys none))))
        | inr found ↦
            let low : count_below order xs x ≡ count_up_to order xs found.0 =
            below_is_up_to found.0 x found.1 xs (All-front (λ z. order z x ≡ Less → is_le (order z found.0) ≡ true) xs ys found.2) in
            let high : count_below order ys x ≡ count_up_to order ys found.0 =
            below_is_up_to found.0 x found.1 ys (All-back (λ z. order z x ≡ Less → is_le (order z found.0) ≡ true) xs ys found.2) in
            ap is_odd high ∙ sub found.0 (sym (ap is_odd low) ∙ h)
      ]

  -- a list changes at an element exactly where it has an item that equals it
  pub changes_at : (xs : List K) (i : ℕ) (x : K) → IsAscending order xs → i < length xs → ((d : K) → order (get_or xs i d) x ≡ Equal) →
      member order xs x ≡ not (just_below xs x)
  changes_at xs i x up within here =
      let one_more : i + 1 ≡ suc i = omega arith in
      ap is_odd (count_up_to-found order o x xs i up within here) ∙ ap is_odd one_more ∙ is_odd-suc i
      ∙ sym (ap (λ n. not (is_odd n)) (count_below-found o x xs i up within here))

  stays_at : (xs : List K) (x : K) → All (λ y. order y x ≢ Equal) xs → count_up_to order xs x ≡ count_below order xs x
  stays_at [] x h = count_up_to-nil order x ∙ sym (count_below-nil order x)
  stays_at (y ∷ ys) x h =
      count_up_to-cons order y ys x
      ∙ ap₂ (λ b n. cond b (suc n) n) (same (order y x) (All-head (λ z. order z x ≢ Equal) y ys h)) (stays_at ys x (All-tail (λ z. order z x ≢ Equal) y ys h))
      ∙ sym (count_below-cons order y ys x)
    where
      same : (v : Ordering) → (v ≡ Equal → ⊥) → is_le v ≡ is_lt v
      same Less other = refl
      same Equal other = absurd (other refl)
      same Greater other = refl

  -- where a subset of a, and a of the items, the items change at x, and a doesn't, neither does the
  -- subset
  none_equal : (q a items : List K) (x : K) → IsAscending order q → IsAscending order items → IsSubset order q a → IsSubset order a items → Contains items x →
      All (λ y. order y x ≢ Equal) a → All (λ y. order x y ≢ Equal) q
  none_equal q a items x up_q up q_in a_in (i, within, is) none k d inside e = not_own_opposite true both
    where
      here : (d2 : K) → order (get_or q k d2) x ≡ Equal
      here d2 = ap (λ y. order y x) (get_or_default q k d2 d inside) ∙ tied_back o x (get_or q k d) e

      at_x : (d2 : K) → order (get_or items i d2) x ≡ Equal
      at_x d2 = ap (λ y. order y x) (get_or_default items i d2 x within ∙ is) ∙ Equal-self o x

      a_stays : member order a x ≡ just_below a x
      a_stays = ap is_odd (stays_at a x none)

      a_below : just_below a x ≡ true
      a_below =
          by_truth (just_below q x) (λ t. below_kept q a q_in x t)
          (λ f. sym a_stays ∙ q_in x (changes_at q k x up_q inside here ∙ ap not f))

      both : true ≡ not true
      both =
          sym (a_in x (a_stays ∙ a_below)) ∙ changes_at items i x up within at_x ∙ ap not (below_kept a items a_in x a_below)

  module _ (is_copy : K → K → Type 0) where
    abbrev CopiesFirst : List K → K → Type 0
    CopiesFirst list x = (z : K) × (slice_get (filter (λ y. is_eq (order x y)) list) 0 ≡ Some z) × is_copy z x

    first_past : (y : K) (ys xs : List K) → All (λ x. order y x ≡ Less) xs → AreCopiesOfFirst order is_copy ys xs → AreCopiesOfFirst order is_copy (y ∷ ys) xs
    first_past y ys [] low h = All-nil (CopiesFirst (y ∷ ys))
    first_past y ys (x ∷ xs) low h =
        let here : CopiesFirst ys x = All-head (CopiesFirst ys) x xs h in
        let differs : is_eq (order x y) ≡ false = ap is_eq (Greater-from_less o y x (All-head (λ z. order y z ≡ Less) x xs low)) in
        All-cons (CopiesFirst (y ∷ ys)) x xs (here.0, rw differs here.1, here.2)
        (first_past y ys xs (All-tail (λ z. order y z ≡ Less) x xs low) (All-tail (CopiesFirst ys) x xs h))

    below_copies : ((x y : K) → is_copy x y → order x y ≡ Equal) → (y : K) (ys xs : List K) → All (λ z. order y z ≡ Less) ys → AllZip is_copy ys xs → All (λ x. order y x ≡ Less) xs
    below_copies equal y [] [] low h = All-nil (λ x. order y x ≡ Less)
    below_copies equal y [] (x ∷ xs) low h = absurd h
    below_copies equal y (z ∷ ys) [] low h = absurd h
    below_copies equal y (z ∷ ys) (x ∷ xs) low h =
        All-cons (λ x. order y x ≡ Less) x xs (Less-then_equal o y z x (All-head (λ z. order y z ≡ Less) z ys low) (equal z x h.0))
        (below_copies equal y ys xs (All-tail (λ z. order y z ≡ Less) z ys low) h.1)

    pub AreCopiesOfFirst-copies : ((x y : K) → is_copy x y → order x y ≡ Equal) → (ys xs : List K) → IsAscending order ys → AllZip is_copy ys xs → AreCopiesOfFirst order is_copy ys xs
    AreCopiesOfFirst-copies equal [] [] up h = All-nil (CopiesFirst [])
    AreCopiesOfFirst-copies equal [] (x ∷ xs) up h = absurd h
    AreCopiesOfFirst-copies equal (y ∷ ys) [] up h = absurd h
    AreCopiesOfFirst-copies equal (y ∷ ys) (x ∷ xs) up h =
        let same : is_eq (order x y) ≡ true = ap is_eq (Equal-sym o y x (equal y x h.0)) in
        All-cons (CopiesFirst (y ∷ ys)) x xs (y, rw same refl, h.0)
        (first_past y ys xs (below_copies equal y ys xs (IsAscending-head order y ys up) h.1)
        (AreCopiesOfFirst-copies equal ys xs (IsAscending-tail order y ys up) h.1))

    filter_none : (x : K) (list : List K) → All (λ y. order x y ≢ Equal) list → filter (λ y. is_eq (order x y)) list ≡ []
    filter_none x [] h = refl
    filter_none x (y ∷ ys) h =
        rw (differs (order x y) (All-head (λ y. order x y ≢ Equal) y ys h)) (filter_none x ys (All-tail (λ y. order x y ≢ Equal) y ys h))
      where
        differs : (v : Ordering) → (v ≡ Equal → ⊥) → is_eq v ≡ false
        differs Less other = refl
        differs Equal other = absurd (other refl)
        differs Greater other = refl

    from_front : (front back : List K) (x : K) → CopiesFirst front x → CopiesFirst (front ++ back) x
    from_front front back x (z, first, copy) = (
      z,
      ap (λ us. slice_get us 0) (filter-append (λ y. is_eq (order x y)) front back)
          ∙ slice_get-front (filter (λ y. is_eq (order x y)) front) (filter (λ y. is_eq (order x y)) back) z first,
      copy,
    )

    from_back : (front back : List K) (x : K) → All (λ y. order x y ≢ Equal) front → CopiesFirst back x → CopiesFirst (front ++ back) x
    from_back front back x none (z, first, copy) = (
      z,
      ap (λ us. slice_get us 0) (filter-append (λ y. is_eq (order x y)) front back ∙ ap (λ us. us ++ filter (λ y. is_eq (order x y)) back) (filter_none x front none)) ∙ first,
      copy,
    )

    All-flat_map : {P : Type 0} (Q : K → Type 0) (boundaries : P → List K) (parts : List P) → All (λ p. All Q (boundaries p)) parts → All Q (flat_map boundaries parts)
    All-flat_map Q boundaries [] h = All-nil Q
    All-flat_map Q boundaries (p ∷ ps) h =
        All-append Q (boundaries p) (flat_map boundaries ps) (All-head (λ p. All Q (boundaries p)) p ps h)
        (All-flat_map Q boundaries ps (All-tail (λ p. All Q (boundaries p)) p ps h))

    pub AreCopiesOfFirst-joined : {P : Type 0} (boundaries : P → List K) → ((p : P) → IsAscending order (boundaries p)) → (front : List P) (later a b items : List K) →
        IsUnionOf order boundaries front a → Means order union_table items a b → AreOwnElseOf order a b items →
        AreCopiesOfFirst order is_copy (flat_map boundaries front) a → AreCopiesOfFirst order is_copy later b →
        AreCopiesOfFirst order is_copy (flat_map boundaries front ++ later) items
    AreCopiesOfFirst-joined boundaries up front later a b items union meant own first second k d within =
        let x : K = get_or items k d in
        let inside : Contains items x = (k, within, get_or_default items k x d within) in
        elim (own k d within) as (λ _. CopiesFirst (flat_map boundaries front ++ later) x) [
          | inl here ↦ from_front (flat_map boundaries front) later x (All-contains (CopiesFirst (flat_map boundaries front)) a x first here)
          | inr there ↦
              from_back (flat_map boundaries front) later x
              (All-flat_map (λ y. order x y ≢ Equal) boundaries front
              (λ j p more.
              none_equal (boundaries (get_or front j p)) a items x (up (get_or front j p)) meant.sorted
              (λ z m. union.members z ∙ list_any_at (λ p. member order (boundaries p) z) front j p more m)
              (λ z m. meant.members z ∙ ap (λ t. t || member order b z) m)
              inside there.1))
              (All-contains (CopiesFirst later) b x second there.0)
        ]

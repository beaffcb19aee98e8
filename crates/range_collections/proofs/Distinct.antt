-- What a sort and a removal of repeats leave: the distinct items in order.
use Rattle.std.proofs.Common.{◌≡◌, refl, sym, ◌∙◌, subst, zero, suc, inl, inr, Bool, true, List, [], ◌∷◌, length, drop, arith, ◌⊎◌}
use Rattle.std.specs.List.{Contains, dedup, AllZip, refill}
use Rattle.std.specs.List.Sorted.{IsPermutation, IsSorted}
use Rattle.std.specs.Cmp.{IsTotalOrder, IsEquivalence}
use Rattle.std.specs.Ordering.{eq_by_cmp}
use Rattle.std.proofs.lemmas.Cmp.{tied_itself, tied_back, alike_right}
use Rattle.range_collections.proofs.Ascending.{IsAscending-tail}
use Rattle.std.proofs.lemmas.List.{take_at}
use Rattle.std.proofs.lemmas.List.Kept.{IsStrictlySortedBy-dedup, Contains-from_dedup, Any-dedup}
use Rattle.std.proofs.lemmas.List.Sorted.{Contains-permutation, IsPermutation-sym}
use Rattle.std.proofs.lemmas.Map.Keys.{Less-from_sorted}
use Rattle.std.specs.declared.cmp.Ordering.{Ordering}
use Rattle.std.specs.declared.cmp.Ordering.TheVariants.{Less, Equal, Greater}
use Rattle.range_merge.specs.Boundaries.{IsAscending}
use Rattle.range_collections.specs.Unsorted.{AreDistinctOf}
use Rattle.range_merge.proofs.Marks.{Contains-here, Contains-after}
use Rattle.range_merge.proofs.OwnersUnique.{not_both_less}

module _ {K : Type 0} {order : K → K → Ordering} (o : IsTotalOrder order) {E : K → K → Bool} (e : IsEquivalence E)
    (ties : (x y : K) → E x y ≡ eq_by_cmp order x y) where
  Equal-from_ties : (x y : K) → E x y ≡ true → order x y ≡ Equal
  Equal-from_ties x y h = by_eq (order x y) (sym (ties x y) ∙ h)
    where
      by_eq : (v : Ordering) → eq_by_cmp (λ (a b : K). v) x y ≡ true → v ≡ Equal
      by_eq Less h = cc
      by_eq Equal h = refl
      by_eq Greater h = cc

  pub IsAscending-dedup : (ys : List K) → IsSorted order ys → IsAscending order (dedup E ys)
  IsAscending-dedup ys up i j d below within =
      Less-from_sorted order (dedup E ys) i j d (IsStrictlySortedBy-dedup o ties ys up) below within

  pub AreDistinctOf-dedup : (xs ys : List K) → IsPermutation xs ys → IsSorted order ys → AreDistinctOf order xs (dedup E ys)
  AreDistinctOf-dedup xs ys moved up = record {
    sorted = IsAscending-dedup ys up;
    taken = λ x h. Contains-permutation ys xs x (IsPermutation-sym xs ys moved) (Contains-from_dedup E ys x h);
    kept = λ x h.
        let (k, y, within, is, same) = Any-dedup e ys x (Contains-permutation xs ys x moved h) in
        (k, y, within, is, Equal-from_ties x y same);
  }

module _ {K : Type 0} (order : K → K → Ordering) where
  Contains-cons_cases : {G : Type 0} (x : K) (xs : List K) (z : K) → Contains (x ∷ xs) z → (x ≡ z → G) → (Contains xs z → G) → G
  Contains-cons_cases x xs z (zero, within, is) here there = here is
  Contains-cons_cases x xs z (suc k, within, is) here there = there (k, omega arith, is)

  -- the first item of an ascending list is below each later one
  Less-contained : (x : K) (xs : List K) (z : K) → IsAscending order (x ∷ xs) → Contains xs z → order x z ≡ Less
  Less-contained x xs z up (k, within, is) = subst (λ y. order x y ≡ Less) is (up 0 (suc k) z (omega arith) (omega arith))

module _ {K : Type 0} {order : K → K → Ordering} (o : IsTotalOrder order) where
  not_tied : (x y : K) → order x y ≡ Less → order y x ≡ Equal → ⊥
  not_tied x y l m =
      let e : Less ≡ Equal = sym l ∙ tied_back o y x m in cc

  -- of two equal items of an ascending list each is the other
  pub same-contained : (a : List K) (y x : K) → IsAscending order a → Contains a y → Contains a x → order y x ≡ Equal → y ≡ x
  same-contained [] y x up (k, within, is) q e = absurd (omega arith)
  same-contained (z ∷ a) y x up p q e =
      Contains-cons_cases order z a y p
      (λ z-y.
      Contains-cons_cases order z a x q
      (λ z-x. sym z-y ∙ z-x)
      (λ later. absurd (not_tied y x (subst (λ w. order w x ≡ Less) z-y (Less-contained order z a x up later)) (tied_back o y x e))))
      (λ in_rest.
      Contains-cons_cases order z a x q
      (λ z-x. absurd (not_tied x y (subst (λ w. order w y ≡ Less) z-x (Less-contained order z a y up in_rest)) e))
      (λ later. same-contained a y x (IsAscending-tail order z a up) in_rest later e))

  -- the distinct items of an ascending list are its items
  pub AllZip-distinct : (xs ys : List K) → IsAscending order xs → AreDistinctOf order xs ys → AllZip (λ x y. order x y ≡ Equal) xs ys
  AllZip-distinct [] [] up h = tt
  AllZip-distinct [] (y ∷ ys) up h =
      let (k, within, is) = h.taken y (Contains-here y ys) in absurd (omega arith)
  AllZip-distinct (x ∷ xs) [] up h =
      let (k, y, within, is, e) = h.kept x (Contains-here x xs) in absurd (omega arith)
  AllZip-distinct (x ∷ xs) (y ∷ ys) up h = (first, AllZip-distinct xs ys (IsAscending-tail order x xs up) others)
    where
      -- x is below y or equal to it, and y is so to x
      low : (order x y ≡ Equal) ⊎ (order x y ≡ Less)
      low =
          Contains-cons_cases order x xs y (h.taken y (Contains-here y ys))
          (λ e. inl (subst (λ z. order x z ≡ Equal) e (tied_itself o x)))
          (λ later. inr (Less-contained order x xs y up later))

      high : (order y x ≡ Equal) ⊎ (order y x ≡ Less)
      high =
          let (k, z, within, is, e) = h.kept x (Contains-here x xs) in
          Contains-cons_cases order y ys z (k, within, is)
          (λ at_y. inl (tied_back o x y (subst (λ w. order x w ≡ Equal) (sym at_y) e)))
          (λ later. inr (sym (alike_right o z x y (tied_back o x z e)) ∙ Less-contained order y ys z h.sorted later))

      first : order x y ≡ Equal
      first =
          elim low as (λ _. order x y ≡ Equal) [
            | inl e ↦ e
            | inr l ↦
                elim high as (λ _. order x y ≡ Equal) [
                  | inl e ↦ absurd (not_tied x y l e)
                  | inr m ↦ absurd (not_both_less o x y l m)
                ]
          ]

      others : AreDistinctOf order xs ys
      others = record {
        sorted = IsAscending-tail order y ys h.sorted;
        taken = λ z later.
            Contains-cons_cases order x xs z (h.taken z (Contains-after y z ys later))
            (λ e.
            absurd (not_tied y z (Less-contained order y ys z h.sorted later)
            (subst (λ w. order w y ≡ Equal) e first)))
            (λ inside. inside);
        kept = λ z later.
            let (k, w, within, is, e) = h.kept z (Contains-after x z xs later) in
            Contains-cons_cases order y ys w (k, within, is)
            (λ at_y.
            absurd (not_tied x z (Less-contained order x xs z up later)
            (alike_right o x y z first ∙ subst (λ v. order z v ≡ Equal) (sym at_y) e)))
            (λ inside. (inside.0, w, inside.1, inside.2, e));
      }

-- a list written whole over another of its length
pub refill_all : {X : Type 0} (xs ys : List X) → length ys ≡ length xs → refill (length xs) xs ys ≡ ys
refill_all xs ys e = take_at ys (drop (length ys) xs) (length xs) e

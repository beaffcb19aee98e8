-- What calls keep: of two equal items the left list's own, and what stands past the items that were
-- written.
use Rattle.std.proofs.Common.{◌≡◌, ◌≢◌, refl, sym, ap, ◌∙◌, subst, ℕ, zero, suc, ◌+◌, inl, inr, List, [], ◌∷◌, All, Contains, slice_get, drop, arith}
use Rattle.std.specs.Cmp.{IsTotalOrder}
use Rattle.std.proofs.lemmas.Cmp.{alike_right}
use Rattle.std.proofs.lemmas.List.Elements.{All-nil, All-cons, All-head, All-tail, All-contains}
use Rattle.std.specs.declared.cmp.Ordering.{Ordering}
use Rattle.std.specs.declared.cmp.Ordering.TheVariants.{Equal}
use Rattle.range_merge.specs.Boundaries.{IsAscending}
use Rattle.range_merge.specs.Changes.{Taken, from_left, from_right, taken_item, IsMarkedTruly}
use Rattle.range_merge.specs.Copies.{AreCopies}
use Rattle.range_collections.specs.InPlace.{IsOwnElse}
use Rattle.range_collections.proofs.Distinct.{same-contained}

-- what stands at a place, where the first items are dropped
pub slice_get-drop : {X : Type 0} (n i : ℕ) (xs : List X) → slice_get (drop n xs) i ≡ slice_get xs (n + i)
slice_get-drop zero i xs = ap (slice_get xs) (omega arith)
slice_get-drop (suc n) i [] = refl
slice_get-drop (suc n) i (x ∷ xs) =
    let next : suc n + i ≡ suc (n + i) = omega arith in
    slice_get-drop n i xs ∙ ap (slice_get (x ∷ xs)) (sym next)

module _ {K : Type 0} {order : K → K → Ordering} (o : IsTotalOrder order) (a : List K) (x : K) (up : IsAscending order a) (own : Contains a x) where
  -- an item of the list that equals x is x, and another one equals none
  pub same-own : (IsOfRight : K → Type 0) (items : List K) (y : K) → All (IsOwnElse order IsOfRight a) items → Contains items y → order x y ≡ Equal → x ≡ y
  same-own IsOfRight items y h there same =
      elim (All-contains (IsOwnElse order IsOfRight a) items y h there) as (λ _. x ≡ y) [
        | inl mine ↦ same-contained o a x y up own mine same
        | inr other ↦ absurd (All-contains (λ z. order z y ≢ Equal) a x other.1 own same)
      ]

  module _ {is_copy : K → K → Type 0} (equal : (y z : K) → is_copy y z → order y z ≡ Equal) (b : List K) where
    is_copy-one : (t : Taken K) (y : K) → IsMarkedTruly order a b t → is_copy (taken_item t) y → order x y ≡ Equal → is_copy x y
    is_copy-one (from_left z) y mark copy same =
        subst (λ w. is_copy w y) (sym (same-contained o a x z up own mark (alike_right o z y x (equal z y copy) ∙ same))) copy
    is_copy-one (from_right z) y mark copy same =
        absurd (All-contains (λ w. order w z ≢ Equal) a x mark.1 own (alike_right o z y x (equal z y copy) ∙ same))

    -- of copies of what was taken, each that equals x is a copy of x
    pub are_copies-own : (ts : List (Taken K)) (items : List K) → All (IsMarkedTruly order a b) ts → AreCopies is_copy ts items → All (λ y. order x y ≡ Equal → is_copy x y) items
    are_copies-own [] [] marks copies = All-nil (λ y. order x y ≡ Equal → is_copy x y)
    are_copies-own [] (y ∷ ys) marks copies = absurd copies
    are_copies-own (t ∷ ts) [] marks copies = absurd copies
    are_copies-own (t ∷ ts) (y ∷ ys) marks copies =
        All-cons (λ y. order x y ≡ Equal → is_copy x y) y ys
        (is_copy-one t y (All-head (IsMarkedTruly order a b) t ts marks) copies.0)
        (are_copies-own ts ys (All-tail (IsMarkedTruly order a b) t ts marks) copies.1)

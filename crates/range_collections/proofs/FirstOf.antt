-- A sort that keeps the order of equal items, and a removal of repeats after it, leave the first of
-- each.
use Rattle.std.proofs.Common.{◌≡◌, refl, sym, ap, ◌∙◌, Bool, true, false, List, [], ◌∷◌, All, Some}
use Rattle.std.specs.Prelude.{filter, not, ◌&&◌, slice_get}
use Rattle.std.specs.List.{dedup, dedup_from}
use Rattle.std.specs.List.Sorted.{IsStable, ties}
use Rattle.std.specs.Cmp.{IsTotalOrder}
use Rattle.std.specs.Ordering.{eq_by_cmp, is_eq, is_lt, ordering_reverse}
use Rattle.std.proofs.lemmas.Bool.{cond_both}
use Rattle.std.proofs.lemmas.Cmp.{tied_itself, alike_right}
use Rattle.std.proofs.lemmas.List.Elements.{All-nil, All-cons, All-head, All-tail, All-weaker, filter_agree}
use Rattle.std.specs.declared.cmp.Ordering.{Ordering}
use Rattle.std.specs.declared.cmp.Ordering.TheVariants.{Less, Equal, Greater}
use Rattle.range_merge.specs.Boundaries.{IsAscending}
use Rattle.range_collections.specs.Unsorted.{AreFirstOf}
use Rattle.range_collections.proofs.Ascending.{IsAscending-head, IsAscending-tail}

module _ {K : Type 0} {order : K → K → Ordering} (o : IsTotalOrder order) where
  -- neither is less than the other exactly where they are equal
  tied : (v : Ordering) → (not (is_lt v) && not (is_lt (ordering_reverse v))) ≡ is_eq v
  tied Less = refl
  tied Equal = refl
  tied Greater = refl

  pub ties-is_eq : (x y : K) → ties (λ u v. is_lt (order u v)) x y ≡ is_eq (order x y)
  ties-is_eq x y = ap (λ v. not (is_lt (order x y)) && not (is_lt v)) (o.antisymm y x) ∙ tied (order x y)

  -- a stable sort keeps the first of the items that are equal to one
  pub AreFirstOf-stable : (xs ys zs : List K) → IsStable order xs ys → AreFirstOf order ys zs → AreFirstOf order xs zs
  AreFirstOf-stable xs ys zs stable h =
      All-weaker (λ x. slice_get (filter (λ y. is_eq (order x y)) ys) 0 ≡ Some x) (λ x. slice_get (filter (λ y. is_eq (order x y)) xs) 0 ≡ Some x)
      (λ x first.
      ap (λ us. slice_get us 0)
      (sym (filter_agree (ties (λ u v. is_lt (order u v)) x) (λ y. is_eq (order x y)) (ties-is_eq x) xs) ∙
      sym (stable x) ∙ filter_agree (ties (λ u v. is_lt (order u v)) x) (λ y. is_eq (order x y)) (ties-is_eq x) ys) ∙
      first)
      zs h

  module _ {E : K → K → Bool} (same : (x y : K) → E x y ≡ eq_by_cmp order x y) where
    -- the first of k and the others that is equal to z
    abbrev first : K → List K → Type 0
    first z list = slice_get (filter (λ y. is_eq (order z y)) list) 0 ≡ Some z

    first-here : (k : K) (xs : List K) → first k (k ∷ xs)
    first-here k xs = rw (tied_itself o k) refl

    -- an item that is not equal to z changes nothing before it
    first-past : (z k : K) (xs : List K) → is_eq (order z k) ≡ false → first z xs → first z (k ∷ xs)
    first-past z k xs differs h = rw differs h

    -- a repeat after k changes nothing
    first-repeat : (z k x : K) (xs : List K) → order x k ≡ Equal → first z (k ∷ xs) → first z (k ∷ x ∷ xs)
    first-repeat z k x xs e =
        cond_both (is_eq (order z k)) (k ∷ filter (λ y. is_eq (order z y)) xs) (filter (λ y. is_eq (order z y)) xs)
        (λ us. slice_get us 0 ≡ Some z → first z (k ∷ x ∷ xs))
        (λ is h. rw is h)
        (λ differs h. rw (differs, alike_right o x k z e, differs) h)

    equal-same : (x k : K) → E x k ≡ true → order x k ≡ Equal
    equal-same x k h = by_eq (order x k) (sym (same x k) ∙ h)
      where
        by_eq : (v : Ordering) → eq_by_cmp (λ (a b : K). v) x k ≡ true → v ≡ Equal
        by_eq Less h = cc
        by_eq Equal h = refl
        by_eq Greater h = cc

    less-not_equal : (k z : K) → order k z ≡ Less → is_eq (order z k) ≡ false
    less-not_equal k z l = ap is_eq (o.antisymm z k ∙ ap ordering_reverse l)

    AreFirstOf-dedup_from : (xs : List K) (k : K) → IsAscending order (dedup_from E k xs) → All (λ z. first z (k ∷ xs)) (dedup_from E k xs)
    AreFirstOf-dedup_from [] k = λ up. All-cons (λ z. first z (k ∷ [])) k [] (first-here k []) (All-nil (λ z. first z (k ∷ [])))
    AreFirstOf-dedup_from (x ∷ xs) k =
        cond_both (E x k) (dedup_from E k xs) (k ∷ dedup_from E x xs)
        (λ us. IsAscending order us → All (λ z. first z (k ∷ x ∷ xs)) us)
        (λ is up.
        All-weaker (λ z. first z (k ∷ xs)) (λ z. first z (k ∷ x ∷ xs)) (λ z. first-repeat z k x xs (equal-same x k is)) (dedup_from E k xs)
        (AreFirstOf-dedup_from xs k up))
        (λ differs up.
        All-cons (λ z. first z (k ∷ x ∷ xs)) k (dedup_from E x xs) (first-here k (x ∷ xs))
        (past k (x ∷ xs) (dedup_from E x xs) (IsAscending-head order k (dedup_from E x xs) up)
        (AreFirstOf-dedup_from xs x (IsAscending-tail order k (dedup_from E x xs) up))))
      where
        past : (k : K) (xs zs : List K) → All (λ z. order k z ≡ Less) zs → All (λ z. first z xs) zs → All (λ z. first z (k ∷ xs)) zs
        past k xs [] low h = All-nil (λ z. first z (k ∷ xs))
        past k xs (z ∷ zs) low h =
            All-cons (λ z. first z (k ∷ xs)) z zs
            (first-past z k xs (less-not_equal k z (All-head (λ z. order k z ≡ Less) z zs low)) (All-head (λ z. first z xs) z zs h))
            (past k xs zs (All-tail (λ z. order k z ≡ Less) z zs low) (All-tail (λ z. first z xs) z zs h))

    pub AreFirstOf-dedup : (ys : List K) → IsAscending order (dedup E ys) → AreFirstOf order ys (dedup E ys)
    AreFirstOf-dedup [] up = All-nil (λ z. first z [])
    AreFirstOf-dedup (y ∷ ys) up = AreFirstOf-dedup_from ys y up

-- The next element that is a member, or that is none: the one at hand, or the next boundary.
use Rattle.std.proofs.Common.{◌≡◌, sym, ap, ◌∙◌, subst, ℕ, inl, inr, ◌<◌, ◌≤◌, Bool, true, false, not, Option, Some, None, IfSome, IfNone, MatchOption, List, length, get_or, arith, refl}
use Rattle.std.specs.Borrow.{Bor}
use Rattle.std.specs.List.{AllWithin, HoldsAt}
use Rattle.std.specs.Ordering.{is_le}
use Rattle.std.specs.Cmp.{IsTotalOrder}
use Rattle.std.proofs.lemmas.Bool.{cases_lt}
use Rattle.std.proofs.lemmas.List.{get_or_default}
use Rattle.std.specs.declared.cmp.Ordering.{Ordering}
use Rattle.std.specs.declared.cmp.Ordering.TheVariants.{Less, Equal, Greater}
use Rattle.range_merge.specs.Boundaries.{IsAscending, member, is_odd}
use Rattle.range_merge.proofs.Orders.{Greater-from_less, Equal-self}
use Rattle.range_merge.proofs.Parity.{is_odd-suc}
use Rattle.range_collections.specs.Extent.{IsNext}
use Rattle.range_collections.proofs.CountUpTo.{count_up_to-split}
use Rattle.range_collections.proofs.Insertion.{other_truth}
use Rattle.range_collections.proofs.Shortest.{Less-from_le, le-trans, le-from_greater, count_up_to-item}

pub not-from_other : (p q : Bool) → (p ≡ q → ⊥) → p ≡ not q
not-from_other true true h = absurd (h refl)
not-from_other true false h = refl
not-from_other false true h = refl
not-from_other false false h = absurd (h refl)

module _ {K : Type 0} {order : K → K → Ordering} (o : IsTotalOrder order) (items : List K) (here : K) (n : ℕ) (inside : Bool)
    (up : IsAscending order items) (within : n ≤ length items)
    (before : AllWithin (λ y. is_le (order y here) ≡ true) items 0 n) (past : AllWithin (λ y. order y here ≡ Greater) items n (length items)) where
  -- from here on, and below all later boundaries, an element is a member exactly if n is odd
  same_as_here : (x : K) → is_le (order here x) ≡ true → AllWithin (λ y. order y x ≡ Greater) items n (length items) → member order items x ≡ is_odd n
  same_as_here x far high =
      ap is_odd (count_up_to-split order x items n within (λ k d low less. le-trans o (get_or items k d) here x (before k d low less) far) high)

  -- nothing from here on is below the element itself
  none_below : (x : K) → is_le (order here x) ≡ true → order x here ≡ Less → ⊥
  none_below x far low =
      let off : order here here ≡ Less = Less-from_le o here x here far low in
      let same : order here here ≡ Equal = Equal-self o here in
      absurd (cc)

  pub IsNext-itself : is_odd n ≡ inside → IsNext order inside items here here
  IsNext-itself e = record {
    at_or_above = ap is_le (Equal-self o here);
    is_there = ap is_odd (count_up_to-split order here items n within before past) ∙ e;
    least = λ x far low. absurd (none_below x far low);
  }

  module _ (other : is_odd n ≡ inside → ⊥) where
    above_next : n < length items → (x : K) → order x (get_or items n here) ≡ Less → AllWithin (λ y. order y x ≡ Greater) items n (length items)
    above_next more x low k d a b =
        elim (cases_lt n k) as (λ _. order (get_or items k d) x ≡ Greater) [
          | inl less ↦
              Greater-from_less o x (get_or items k d)
              (o.trans x (get_or items n here) (get_or items k d) low
              (subst (λ y. order y (get_or items k d) ≡ Less) (get_or_default items n d here more) (up n k d less b)))
          | inr same ↦
              let e : k ≡ n = omega (arith, same, a) in
              subst (λ m. order (get_or items m d) x ≡ Greater) (sym e)
              (subst (λ y. order y x ≡ Greater) (get_or_default items n here d more) (Greater-from_less o x (get_or items n here) low))
        ]

    IsNext-boundary : n < length items → IsNext order inside items here (get_or items n here)
    IsNext-boundary more = record {
      at_or_above = le-from_greater o (get_or items n here) here (past n here (omega arith) more);
      is_there = ap is_odd (count_up_to-item o items up n here more) ∙ is_odd-suc n ∙ other_truth (is_odd n) inside other;
      least = λ x far low. same_as_here x far (above_next more x low) ∙ not-from_other (is_odd n) inside other;
    }

    -- what the list has at place n
    pub IsNext-item : (r : Option (Bor K)) → MatchOption r (length items ≤ n) (λ x. (n < length items) × HoldsAt (λ y. x.now ≡ y) items n) →
        IfSome r (λ next. IsNext order inside items here next.now)
    IsNext-item None h = tt
    IsNext-item (Some next) h = subst (λ y. IsNext order inside items here y) (sym (h.1 here)) (IsNext-boundary h.0)

    pub none-item : (r : Option (Bor K)) → MatchOption r (length items ≤ n) (λ x. (n < length items) × HoldsAt (λ y. x.now ≡ y) items n) →
        IfNone r ((x : K) → is_le (order here x) ≡ true → member order items x ≡ not inside)
    none-item None last = λ x far. same_as_here x far (λ k d a b. absurd (omega (arith, last, a, b))) ∙ not-from_other (is_odd n) inside other
    none-item (Some next) h = tt

-- The stretch around a key that is given an option.
use Rattle.std.proofs.Common.{◌≡◌, ℕ, ◌-◌, ◌<◌, ◌≤◌, ◌&&◌, ◌∷◌, inl, inr, Bool, true, cond, None, Some, Option, List, length, get_or, slice_get, refl, sym, ap, ap₂, ◌∙◌, option_copied, arith}
use Rattle.std.proofs.lemmas.List.{get_or_default}
use Rattle.std.specs.List.{AllWithin}
use Rattle.std.specs.Borrow.{Bor}
use Rattle.std.specs.Option.{option_eq}
use Rattle.std.specs.Cmp.{IsTotalOrder, IsEquivalence}
use Rattle.std.specs.Cmp.Lexicographic.{options_equiv}
use Rattle.std.specs.declared.cmp.Ordering.{Ordering}
use Rattle.std.specs.declared.cmp.Ordering.TheVariants.{Less, Equal, Greater}
use Rattle.std.specs.Ordering.{is_le, is_lt}
use Rattle.range_merge.specs.Boundaries.{IsAscending}
use Rattle.range_merge.proofs.Orders.{Equal-sym, Less-from_equal, Less-then_equal, same_left, same_right}
use Rattle.range_map.specs.Steps.{Steps, value_at, AreAlike, IsCanonical}
use Rattle.range_map.specs.Changed.{is_before_end, is_in_range, IsSetTo}
use Rattle.range_map.specs.Stretches.{AreEqualEnds, IsModified}
use Rattle.range_map.proofs.Stretched.{at_x, by_bool, slice_get-cases, IsStretch-around}

module _ {K : Type 0} (order : K → K → Ordering) (o : IsTotalOrder order) where
  same_end : (p q : Option K) → AreEqualEnds order p q → (x : K) → is_before_end order p x ≡ is_before_end order q x
  same_end None None h x = refl
  same_end None (Some b) h x = absurd h
  same_end (Some a) None h x = absurd h
  same_end (Some a) (Some b) h x = ap is_lt (same_right o a b x h)

  -- a range of copies of the ends is the same
  pub IsSetTo-same : {V : Type 0} (E : V → V → Bool) (start k : K) (end last : Option K) (p : Option V) (m r : Steps K V) → order k start ≡ Equal → AreEqualEnds order last end →
      IsSetTo order E start end p m r → IsSetTo order E k last p m r
  IsSetTo-same E start k end last p m r first h set x =
      ap (λ b. option_eq E (value_at order r x) (cond b p (value_at order m x)))
      (ap₂ (λ c b. is_le c && b) (same_left o k start x first) (same_end last end h x))
      ∙ set x

  -- a key is below the next one, and so are copies of them
  pub copies-ascend : (ks : List K) (n : ℕ) (k start : K) (end : Option K) → IsAscending order ks → 0 < n → n ≤ length ks → get_or ks (n - 1) k ≡ k →
      order k start ≡ Equal → AreEqualEnds order (slice_get ks n) end → (z : K) → end ≡ Some z → order start z ≡ Less
  copies-ascend ks n k start end up some within key first h z is =
      elim (slice_get-cases ks n) as (λ _. order start z ≡ Less) [
        | inl next ↦
            let equal : order next.0 z ≡ Equal = rw (next.2, is) at h in
            let below : order k next.0 ≡ Less =
            ap₂ order (sym key) (sym next.3 ∙ get_or_default ks n next.0 k next.1) ∙ up (n - 1) n k (omega (arith, some)) next.1 in
            Less-from_equal o start k z (Equal-sym o k start first) (Less-then_equal o k next.0 z below equal)
        | inr none ↦ absurd (rw (none.1, is) at h)
      ]

module _ {K V : Type 0} (order : K → K → Ordering) (o : IsTotalOrder order) (E : V → V → Bool) (e : IsEquivalence E)
    (m : Steps K V) (canonical : IsCanonical order E m) (x : K) (n : ℕ) (within : n ≤ length m.keys)
    (before : AllWithin (λ y. is_le (order y x) ≡ true) m.keys 0 n) (from : AllWithin (λ y. order y x ≡ Greater) m.keys n (length m.keys)) where
  -- the option of x, as it was read before the place
  pub value-read : (r : Option (Bor V)) (p : Option V) → option_copied r ≡ get_or (None ∷ m.options) n None → option_copied r ≡ p → p ≡ value_at order m x
  value-read r p read is = sym is ∙ read ∙ sym (at_x order o E e m canonical x n within before from)

  pub no-value : (r : Option (Bor V)) (v : V) → option_copied r ≡ get_or (None ∷ m.options) n None → option_copied r ≡ Some v → value_at order m x ≡ None → ⊥
  no-value r v read is none = let off : Some v ≡ None = value-read r (Some v) read is ∙ none in absurd (cc)

  -- what is given an option from the key before a place up to the one at it, is the stretch around x
  pub IsModified-set : (f : Option V → Option V) (p : Option V) (s : K) (r : Steps K V) → 0 < n → get_or m.keys (n - 1) s ≡ s →
      AreAlike E p (f (value_at order m x)) → IsSetTo order E s (slice_get m.keys n) p m r → IsModified order E f x m r
  IsModified-set f p s r some key alike set =
      let stretch = IsStretch-around order o E e m canonical x n within before from (Some s) (slice_get m.keys n)
      (λ none. absurd (omega (arith, some, none)), λ _. (s, refl, key)) refl in
      let given = λ (y : K) (b : Bool). option_eq E (value_at order r y) (cond b p (value_at order m y)) in
      record {
        inside = λ y along.
            (options_equiv e).congr (value_at order r y) p (f (value_at order m x)) (ap (given y) (sym ((stretch y).1 along)) ∙ set y) ∙ alike;
        outside = λ y off.
            by_bool (is_in_range order s (slice_get m.keys n) y) (λ h. absurd (off ((stretch y).0 h))) (λ h. ap (given y) (sym h) ∙ set y);
      }

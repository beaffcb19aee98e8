-- Where no key of a range has a value: at its start none holds, and no key of the map lies in it.
use Rattle.std.proofs.Common.{◌≡◌, ◌↔◌, IsTrue, ℕ, ◌<◌, ◌≤◌, ◌&&◌, ◌∷◌, inl, inr, Bool, true, false, not, None, Some, Option, length, get_or, refl, sym, ap, ap₂, ◌∙◌, arith, true≢false, option_copied, unwrap_or, cond}
use Rattle.std.proofs.lemmas.Bool.{cases_lt}
use Rattle.std.proofs.lemmas.List.{get_or_default}
use Rattle.std.specs.Borrow.{Bor}
use Rattle.std.specs.List.{AllWithin}
use Rattle.std.specs.Option.{option_eq, is_some}
use Rattle.std.specs.Cmp.{IsTotalOrder, IsEquivalence}
use Rattle.std.specs.Cmp.Lexicographic.{options_equiv}
use Rattle.std.proofs.lemmas.Cmp.{tied_itself}
use Rattle.std.specs.declared.cmp.Ordering.{Ordering}
use Rattle.std.specs.declared.cmp.Ordering.TheVariants.{Less, Greater}
use Rattle.std.specs.Ordering.{is_le, is_lt}
use Rattle.range_merge.proofs.Orders.{Greater-from_less, Less-from_greater}
use Rattle.range_collections.specs.Intersects.{IsItemBelow}
use Rattle.range_collections.proofs.Ascending.{Less-from_is_lt}
use Rattle.range_collections.proofs.Shortest.{le-trans, Less-from_le, Less-then_le}
use Rattle.range_map.specs.Steps.{Steps, value_at, IsCanonical}
use Rattle.range_map.specs.Changed.{is_in_range, IsFree, IsSetTo}
use Rattle.range_map.specs.Places.{Span, ArePlaces, IsAboveEnd}
use Rattle.range_map.proofs.Stretched.{both, from-first, option_before, value_at-place, value_at-key, neighbours}
use Rattle.range_map.proofs.UpToEnd.{not_before}

-- the end of a range that has one
pub less_to : {K : Type 0} (order : K → K → Ordering) (start end : K) → order start end ≡ Less → (z : K) → Some end ≡ Some z → order start z ≡ Less
less_to order start end less z e = let same : end ≡ z = ap (λ p. unwrap_or p end) e in rw (sym same) less

pub value_read : {V : Type 0} (r : Option (Bor V)) (p : Option V) → option_copied r ≡ p → is_some r ≡ false → p ≡ None
value_read None p e h = sym e
value_read (Some v) p e h = absurd (true≢false h)

pub none_read : {V : Type 0} (r : Option (Bor V)) → option_copied r ≡ None → is_some r ≡ true → ⊥
none_read None e h = absurd (true≢false (sym h))
none_read (Some v) e h = let off : Some v.now ≡ None = e in absurd (cc)

module _ {K V : Type 0} (order : K → K → Ordering) (o : IsTotalOrder order) (E : V → V → Bool) (e : IsEquivalence E)
    (m : Steps K V) (canonical : IsCanonical order E m) (start end : K) where
  -- a range without keys is free
  pub IsFree-empty : is_lt (order start end) ≡ false → IsFree order start (Some end) m
  IsFree-empty none x inside =
      let in_it = both (is_le (order start x)) (is_lt (order x end)) inside in
      absurd (true≢false (sym (ap is_lt (Less-from_le o start x end in_it.0 (Less-from_is_lt (order x end) in_it.1))) ∙ none))

  module _ (less : order start end ≡ Less) where
    start_in : is_in_range order start (Some end) start ≡ true
    start_in = ap₂ (λ r s. is_le r && is_lt s) (tied_itself o start) less

    module _ (n : ℕ) (within : n ≤ length m.keys) (before : AllWithin (λ y. is_le (order y start) ≡ true) m.keys 0 n)
        (from : AllWithin (λ y. order y start ≡ Greater) m.keys n (length m.keys)) where
      pub not_IsFree-value : (r : Option (Bor V)) → option_copied r ≡ option_before order o E e m canonical n → is_some r ≡ true → IsFree order start (Some end) m → ⊥
      not_IsFree-value r read some free =
          none_read r (read ∙ sym (value_at-place order o E e m canonical start n within before from) ∙ free start start_in) some

      pub IsFree-decided : option_before order o E e m canonical n ≡ None → (b : Bool) → IsTrue b ↔ IsItemBelow order m.keys n end → IsTrue (not b) ↔ IsFree order start (Some end) m
      IsFree-decided none true below = (
        λ t. absurd (true≢false (sym t)),
        λ free.
            let item = below.0 refl in
            let k : K = get_or m.keys n start in
            let k_in : is_in_range order start (Some end) k ≡ true = ap₂ (λ r s. is_le r && is_lt s) (Less-from_greater o k start (from n start (omega arith) item.0)) (item.1 start) in
            absurd (true≢false (ap₂ (option_eq E) (sym none) (sym (sym (value_at-key order o E e m canonical n start item.0) ∙ free k k_in)) ∙ neighbours order o E e m canonical n item.0)),
      )
      IsFree-decided none false below = (
        λ _ x inside.
            let in_it = both (is_le (order start x)) (is_lt (order x end)) inside in
            value_at-place order o E e m canonical x n within (λ i d low high. le-trans o _ start x (before i d low high) in_it.0) (above x in_it.1) ∙ none,
        λ _. refl,
      )
        where
          next_not_below : (d : K) → n < length m.keys → is_lt (order (get_or m.keys n d) end) ≡ true → ⊥
          next_not_below d more lower =
              let b : false ≡ true = below.1 (more, λ f. ap (λ k. order k end) (get_or_default m.keys n f d more) ∙ Less-from_is_lt (order (get_or m.keys n d) end) lower) in
              absurd (true≢false (sym b))

          by_bool : {G : Type 0} (c : Bool) → (c ≡ true → G) → (c ≡ false → G) → G
          by_bool true t f = t refl
          by_bool false t f = f refl

          above : (x : K) → is_lt (order x end) ≡ true → AllWithin (λ y. order y x ≡ Greater) m.keys n (length m.keys)
          above x l =
              elim (cases_lt n (length m.keys)) as (λ _. AllWithin (λ y. order y x ≡ Greater) m.keys n (length m.keys)) [
                | inl more ↦
                    from-first order o m.keys canonical.ascending n end x more
                    (by_bool (is_lt (order (get_or m.keys n end) end)) (λ t. absurd (next_not_below end more t))
                    (λ f. Greater-from_less o x _ (Less-then_le o x end _ (Less-from_is_lt (order x end) l) (not_before order o (get_or m.keys n end) end f))))
                | inr none ↦ λ i d low high. absurd (omega (arith, none, low, high))
              ]

module _ {K V : Type 0} (order : K → K → Ordering) (o : IsTotalOrder order) (E : V → V → Bool) (e : IsEquivalence E)
    (m : Steps K V) (canonical : IsCanonical order E m) (start : K) where
  -- the start is in the range, which goes on up to the end, if there is one
  starts_in : (end : Option K) → ((z : K) → end ≡ Some z → order start z ≡ Less) → is_in_range order start end start ≡ true
  starts_in None some = ap (λ r. is_le r && true) (tied_itself o start)
  starts_in (Some z) some = ap₂ (λ r s. is_le r && is_lt s) (tied_itself o start) (some z refl)

  above_start : (end : Option K) → ((z : K) → end ≡ Some z → order start z ≡ Less) → (y : K) → IsAboveEnd order end y → order y start ≡ Greater
  above_start None some y above = absurd above
  above_start (Some z) some y above = Greater-from_less o start y (o.trans start z y (some z refl) (Less-from_greater o y z above))

  -- where no step lies in a free range, none holds at its end
  pub none_after : (end : Option K) (some : (z : K) → end ≡ Some z → order start z ≡ Less) (p : Option V) (places : Span) →
      ArePlaces order E m start end p places → IsFree order start end m → places.from ≡ places.to → get_or (None ∷ m.options) places.to None ≡ None
  none_after end some p places are free same =
      sym (value_at-place order o E e m canonical start places.to are.to_in
      (rw (sym same) (λ i d low high. ap is_le (are.below i d low high)))
      (λ i d low high. above_start end some _ (are.above i d low high)))
      ∙ free start (starts_in end some)

  module _ (n : ℕ) (within : n ≤ length m.keys) (before : AllWithin (λ y. is_le (order y start) ≡ true) m.keys 0 n)
      (from : AllWithin (λ y. order y start ≡ Greater) m.keys n (length m.keys)) where
    at_start : IsFree order start None m → option_before order o E e m canonical n ≡ None
    at_start free = sym (value_at-place order o E e m canonical start n within before from) ∙ free start (starts_in None (λ z none. absurd (cc)))

    -- where the range goes on for ever, no key stands above the start
    pub not_IsFree-next : n < length m.keys → IsFree order start None m → ⊥
    not_IsFree-next more free =
        let k : K = get_or m.keys n start in
        let k_in : is_in_range order start None k ≡ true = ap (λ r. is_le r && true) (Less-from_greater o k start (from n start (omega arith) more)) in
        absurd (true≢false (ap₂ (option_eq E) (sym (at_start free)) (sym (sym (value_at-key order o E e m canonical n start more) ∙ free k k_in)) ∙ neighbours order o E e m canonical n more))

    pub IsFree-endless : n ≡ length m.keys → (r : Option (Bor V)) → option_copied r ≡ option_before order o E e m canonical n → (b : Bool) → is_some r ≡ not b →
        IsTrue b ↔ IsFree order start None m
    IsFree-endless last None read true h = (
      λ _ x inside.
          value_at-place order o E e m canonical x n within
          (λ i d low high. le-trans o _ start x (before i d low high) (both (is_le (order start x)) true inside).0)
          (λ i d low high. absurd (omega (arith, last, low, high)))
          ∙ sym read,
      λ _. refl,
    )
    IsFree-endless last None read false h = absurd (true≢false (sym h))
    IsFree-endless last (Some v) read true h = absurd (true≢false h)
    IsFree-endless last (Some v) read false h = (λ t. absurd (true≢false (sym t)), λ free. absurd (none_read (Some v) (read ∙ at_start free) refl))

-- where no key of a range has a value, taking the values away changes nothing
pub IsSetTo-free : {K V : Type 0} (order : K → K → Ordering) (E : V → V → Bool) → IsEquivalence E → (m : Steps K V) (start : K) (end : Option K) →
    IsFree order start end m → IsSetTo order E start end None m m
IsSetTo-free order E e m start end free x =
    by_bool (is_in_range order start end x)
    (λ t. ap₂ (option_eq E) (free x t) (ap (λ b. cond b None (value_at order m x)) t))
    (λ f. ap (λ b. option_eq E (value_at order m x) (cond b None (value_at order m x))) f ∙ (options_equiv e).refl (value_at order m x))
  where
    by_bool : {G : Type 0} (c : Bool) → (c ≡ true → G) → (c ≡ false → G) → G
    by_bool true t f = t refl
    by_bool false t f = f refl

-- What a search knows after each comparison, if it leaves one item less than a power of two.
--     IsNarrowed-start, -first, -step     before any comparison, after the first one, after each further one
--     IsNarrowed-half                     after one that leaves half of what was left
--     IsSearched-narrowed                 what is known once nothing is left
--     adds_at_most                        as many comparisons as the length has digits
use Rattle.std.proofs.Common.{◌≡◌, ℕ, ◌+◌, ◌-◌, ◌*◌, ◌/◌, ◌%◌, ◌^◌, ◌<◌, ◌≤◌, Bool, true, false, ◌&&◌, ◌||◌, List, length, get_or, ⊎_elim, HoldsAt, min, arith, add-one, ap, refl, sym, ◌∙◌}
use Rattle.std.specs.List.{AllWithin}
use Rattle.std.specs.Cmp.{IsTotalOrder}
use Rattle.std.specs.Bool.{if◌then◌else◌}
use Rattle.std.specs.Ordering.{is_le, is_eq}
use Rattle.std.proofs.lemmas.Bool.{cases_lt, false≢true}
use Rattle.std.proofs.lemmas.List.{get_or_read_under}
use Rattle.std.proofs.lemmas.Nat.{pow_pos}
use Rattle.std.proofs.Math.Nat.{pow-suc}
use Rattle.std.proofs.Math.Pow.{pow-lt, pow_mono}
use mir.Val.{bool_byte}
use Rattle.std.specs.declared.cmp.Ordering.{Ordering}
use Rattle.std.specs.declared.cmp.Ordering.TheVariants.{Less, Equal, Greater}
use Rattle.range_merge.specs.Boundaries.{IsAscending}
use Rattle.range_merge.specs.Counting.{AddsAtMost}
use Rattle.range_merge.specs.Runs.{digits}
use Rattle.range_merge.specs.Searching.{IsNarrowed, IsSearched}
use Rattle.range_merge.proofs.Digits.{digits-pow}
use Rattle.range_merge.proofs.Fronts.{below_through, above_from}
use Rattle.range_merge.proofs.Orders.{Greater-from_less, Less-then_equal, same_left}

module _ {K : Type 0} (order : K → K → Ordering) (o : IsTotalOrder order) (items : List K) (key : K) (ascends : IsAscending order items) where
  module _ (i : ℕ) (within : i < length items) (equal : HoldsAt (λ y. order y key ≡ Equal) items i) where
    -- all through an item that equals the key are at or below it
    pub up_to_through : AllWithin (λ y. is_le (order y key) ≡ true) items 0 (i + 1)
    up_to_through k d low high =
        ⊎_elim
        (λ before. ap is_le (Less-then_equal o (get_or items k d) (get_or items i d) key (ascends k i d before within) (equal d)))
        (λ same. ap (λ j. is_le (order (get_or items j d) key)) (omega arith) ∙ ap is_le (equal d))
        (cases_lt k i)

    -- and all after it are above it
    pub above_after : AllWithin (λ y. order y key ≡ Greater) items (i + 1) (length items)
    above_after k d low high =
        Greater-from_less o key (get_or items k d) (sym (same_left o (get_or items i d) key (get_or items k d) (equal d)) ∙ ascends i k d (omega arith) high)

  module _ (i : ℕ) (x : K) (within : i < length items) (read : x ≡ get_or items i x) where
    -- what the item that was read is to the key holds at its place
    pub at : (how : Ordering) → order x key ≡ how → HoldsAt (λ y. order y key ≡ how) items i
    at how is d = ap (λ y. order y key) (sym (get_or_read_under items i (length items) x d read within refl)) ∙ is

pub Equal-from_test : (b : Bool) (o p : Ordering) → o ≡ p → b ≡ is_eq o → b ≡ true → p ≡ Equal
Equal-from_test b Less p e t h = cc
Equal-from_test b Equal p e t h = sym e
Equal-from_test b Greater p e t h = cc

-- a search that ends at an equal item has seen none before
pub none_equal : (finds seen test is : Bool) → (finds && test) ≡ false → test ≡ is → finds ≡ true → seen ≡ false → (seen || is) ≡ false
none_equal true false test is none e _ _ = sym e ∙ none
none_equal true true test is none e _ seen = absurd (false≢true (sym seen))
none_equal false seen test is none e off _ = absurd (false≢true off)

pub double : (k : ℕ) → 2 ^ (k + 1) ≡ 2 ^ k * 2
double k = rw add-one (pow-suc 2 k)

module _ {K : Type 0} (order : K → K → Ordering) (items : List K) (key : K) where
  IsNarrowed-at : {low low_next rest rest_next : ℕ} {has_equal : Bool} → low ≡ low_next → rest ≡ rest_next → IsNarrowed order items key low rest has_equal → IsNarrowed order items key low_next rest_next has_equal
  IsNarrowed-at {has_equal} same same_rest s = rw (← same, ← same_rest) s

  -- before the first comparison all items are left
  pub IsNarrowed-start : IsNarrowed order items key 0 (length items) false
  IsNarrowed-start = record {
    within = omega arith;
    before = λ k d a b. absurd (omega arith);
    from = λ k d a b. absurd (omega arith);
    found = λ e. absurd (false≢true e);
    missing = λ e k d a b. absurd (omega arith);
  }

module _ {K : Type 0} (order : K → K → Ordering) (o : IsTotalOrder order) (items : List K) (key : K) (ascends : IsAscending order items) where
  last_equals : (low : ℕ) (has_equal : Bool) → IsNarrowed order items key low 0 has_equal → ((i : ℕ) × (i < length items) × HoldsAt (λ y. order y key ≡ Equal) items i) → (1 ≤ low) × HoldsAt (λ y. order y key ≡ Equal) items (low - 1)
  last_equals low has_equal s (i, within, equal) =
      ⊎_elim
      (λ before. ⊎_elim
      (λ earlier.
      let off : is_le Greater ≡ true = ap is_le (sym (above_after order o items key ascends i within equal (low - 1) key (omega arith) (omega (arith, s.within)))) ∙ s.before (low - 1) key (omega arith) (omega arith) in
      absurd (false≢true off))
      (λ later.
      let e : low - 1 ≡ i = omega arith in
      (omega arith, rw e equal))
      (cases_lt i (low - 1)))
      (λ from.
      let off : Greater ≡ Equal = sym (s.from i key (omega arith) within) ∙ equal key in
      absurd (cc))
      (cases_lt i low)

  -- once nothing is left, an item that equals the key is the last one before
  pub IsSearched-narrowed : (low : ℕ) (has_equal : Bool) → IsNarrowed order items key low 0 has_equal → IsSearched order items key low low has_equal
  IsSearched-narrowed low has_equal s = record {
    ordered = omega arith;
    within = omega (arith, s.within);
    before = s.before;
    from = λ k d a b. s.from k d (omega arith) b;
    found = λ e. last_equals low has_equal s (s.found e);
    missing = s.missing;
  }

  module _ (i : ℕ) (x : K) (within : i < length items) (read : x ≡ get_or items i x) where
    -- the item is at or below the key: what is left ends where it ended before
    pub IsNarrowed-after : (low rest low_next rest_next : ℕ) (has_equal : Bool) (how : Ordering) → order x key ≡ how → is_le how ≡ true → low_next ≤ i + 1 → low_next + rest_next ≡ low + rest →
        IsNarrowed order items key low rest has_equal → IsNarrowed order items key low_next rest_next (has_equal || is_eq how)
    IsNarrowed-after low rest low_next rest_next true Less is le few same s = record {
      within = omega (arith, s.within);
      before = λ k d a b. ap is_le (below_through order o items key ascends i x within read is k d a (omega arith));
      from = λ k d a b. s.from k d (omega arith) b;
      found = s.found;
      missing = λ e. absurd (false≢true (sym e));
    }
    IsNarrowed-after low rest low_next rest_next false Less is le few same s = record {
      within = omega (arith, s.within);
      before = λ k d a b. ap is_le (below_through order o items key ascends i x within read is k d a (omega arith));
      from = λ k d a b. s.from k d (omega arith) b;
      found = λ e. absurd (false≢true e);
      missing = λ _ k d a b. below_through order o items key ascends i x within read is k d a (omega arith);
    }
    IsNarrowed-after low rest low_next rest_next true Equal is le few same s = record {
      within = omega (arith, s.within);
      before = λ k d a b. up_to_through order o items key ascends i within (at order o items key ascends i x within read Equal is) k d a (omega arith);
      from = λ k d a b. s.from k d (omega arith) b;
      found = s.found;
      missing = λ e. absurd (false≢true (sym e));
    }
    IsNarrowed-after low rest low_next rest_next false Equal is le few same s = record {
      within = omega (arith, s.within);
      before = λ k d a b. up_to_through order o items key ascends i within (at order o items key ascends i x within read Equal is) k d a (omega arith);
      from = λ k d a b. s.from k d (omega arith) b;
      found = λ _. (i, within, at order o items key ascends i x within read Equal is);
      missing = λ e. absurd (false≢true (sym e));
    }
    IsNarrowed-after low rest low_next rest_next has_equal Greater is le few same s = absurd (false≢true le)

    -- the item is above the key: what is left ends at it, or later
    pub IsNarrowed-before : (low rest rest_next : ℕ) (has_equal : Bool) → order x key ≡ Greater → i ≤ low + rest_next → rest_next ≤ rest →
        IsNarrowed order items key low rest has_equal → IsNarrowed order items key low rest_next (has_equal || false)
    IsNarrowed-before low rest rest_next true greater from less s = record {
      within = omega (arith, s.within);
      before = s.before;
      from = λ k d a b. above_from order o items key ascends i x within read greater k d (omega arith) b;
      found = s.found;
      missing = s.missing;
    }
    IsNarrowed-before low rest rest_next false greater from less s = record {
      within = omega (arith, s.within);
      before = s.before;
      from = λ k d a b. above_from order o items key ascends i x within read greater k d (omega arith) b;
      found = s.found;
      missing = s.missing;
    }

    -- the middle one of the items that are left
    pub IsNarrowed-step : (low bits : ℕ) (has_equal : Bool) (how : Ordering) → order x key ≡ how → bits < 16 → i + 1 ≡ low + 2 ^ bits →
        IsNarrowed order items key low (2 ^ (bits + 1) - 1) has_equal →
        IsNarrowed order items key (low + bool_byte (is_le how) * 2 ^ bits % 2 ^ 64) (2 ^ bits - 1) (has_equal || is_eq how)
    IsNarrowed-step low bits has_equal Less is few place s =
        let small : 2 ^ bits < 2 ^ 16 = pow-lt few in
        IsNarrowed-after low (2 ^ (bits + 1) - 1) _ _ has_equal Less is refl (omega arith) (omega (arith, double bits, pow_pos bits)) s
    IsNarrowed-step low bits has_equal Equal is few place s =
        let small : 2 ^ bits < 2 ^ 16 = pow-lt few in
        IsNarrowed-after low (2 ^ (bits + 1) - 1) _ _ has_equal Equal is refl (omega arith) (omega (arith, double bits, pow_pos bits)) s
    IsNarrowed-step low bits has_equal Greater is few place s =
        IsNarrowed-at order items key (omega arith) refl
        (IsNarrowed-before low (2 ^ (bits + 1) - 1) (2 ^ bits - 1) has_equal is (omega (arith, pow_pos bits)) (omega (arith, double bits)) s)

    -- the last item of the first half: half of the items are left
    pub IsNarrowed-half : (low left : ℕ) (has_equal : Bool) (how : Ordering) → order x key ≡ how → 0 < left → i ≡ low + (left - left / 2 - 1) →
        IsNarrowed order items key low left has_equal →
        IsNarrowed order items key (if is_le how then i + 1 else low) (left / 2) (has_equal || is_eq how)
    IsNarrowed-half low left has_equal Less is some place s =
        IsNarrowed-after low left (i + 1) (left / 2) has_equal Less is refl (omega arith) (omega arith) s
    IsNarrowed-half low left has_equal Equal is some place s =
        IsNarrowed-after low left (i + 1) (left / 2) has_equal Equal is refl (omega arith) (omega arith) s
    IsNarrowed-half low left has_equal Greater is some place s =
        IsNarrowed-before low left (left / 2) has_equal is (omega arith) (omega arith) s

    -- the first item that is compared: as many items are left before it as at the list's end
    pub IsNarrowed-first : (power past : ℕ) (how : Ordering) → order x key ≡ how → i + 1 ≡ power → past ≡ length items - power + 1 → length items < 2 * power →
        IsNarrowed order items key (if is_le how then past else 0) (power - 1) (is_eq how)
    IsNarrowed-first power past Less is place left few =
        IsNarrowed-after 0 (length items) _ _ false Less is refl (omega arith) (omega arith) (IsNarrowed-start order items key)
    IsNarrowed-first power past Equal is place left few =
        IsNarrowed-after 0 (length items) _ _ false Equal is refl (omega arith) (omega arith) (IsNarrowed-start order items key)
    IsNarrowed-first power past Greater is place left few =
        IsNarrowed-before 0 (length items) (power - 1) false is (omega arith) (omega arith) (IsNarrowed-start order items key)

-- if a power of two is at most n, and n is below another, its exponent is the smaller
pub pow_below : (a b n : ℕ) → 2 ^ a ≤ n → n < 2 ^ b → a < b
pow_below a b n least below =
    ⊎_elim
    (λ small. small)
    (λ large.
    let off : 2 ^ b ≤ 2 ^ a = pow_mono large in
    absurd (omega arith))
    (cases_lt a b)

-- the first comparison and one for each level are as many as the length has digits
pub adds_at_most : (levels top n old first new : ℕ) → levels ≤ top → 2 ^ levels ≤ n → first ≡ old + 1 → new + min levels 0 ≡ first + min levels top → AddsAtMost old new (digits n)
adds_at_most levels top n old first new few least one made = record {
  at_least = omega arith;
  at_most = omega (arith, digits-pow levels n least);
}

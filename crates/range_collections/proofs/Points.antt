-- A strictly sorted list between a start and an end: how many items lie at or below the start, and
-- how many below the end.
use Rattle.std.proofs.Common.{Bool, ◌≡◌, refl, sym, ap, ◌∙◌, subst, ℕ, inl, inr, ◌<◌, ◌≤◌, ◌+◌, ◌-◌, ◌%◌, ◌==◌, Option, Some, None, IsSome, IfSome, true, false, List, [], ◌∷◌, length, take, drop, get_or, arith, get_or-drop, length-drop, Contains}
use Rattle.std.specs.Borrow.{Bor}
use Rattle.std.specs.List.{AllWithin}
use Rattle.std.specs.Iterator.{YieldsFirstBy}
use Rattle.std.specs.Ordering.{is_le, is_lt}
use Rattle.std.specs.Cmp.{IsTotalOrder}
use Rattle.std.proofs.lemmas.Bool.{cases_lt, true≢false}
use Rattle.std.proofs.lemmas.List.{take-append-drop, length-take-le}
use Rattle.std.proofs.lemmas.List.Elements.{Contains-append_right}
use Rattle.std.specs.declared.cmp.Ordering.{Ordering}
use Rattle.std.specs.declared.cmp.Ordering.TheVariants.{Less, Equal, Greater}
use Rattle.range_merge.specs.Boundaries.{IsAscending, member, is_odd}
use Rattle.range_merge.proofs.Orders.{Less-from_greater, Equal-self}
use Rattle.range_collections.specs.Extent.{HasAllWithin}
use Rattle.range_collections.specs.Ranges.{ranges_of, range_now, IsInRange}
use Rattle.range_collections.specs.declared.range_set_range.RangeSetRange.{RangeSetRange}
use Rattle.range_collections.specs.declared.range_set_range.RangeSetRange.TheVariants.{Range, RangeFrom}
use Rattle.range_collections.proofs.CountUpTo.{count_up_to-split}
use Rattle.range_collections.proofs.RangesAtEnds.{ranges_of-append, nil-from_ranges}
use Rattle.range_collections.proofs.Shortest.{Less-from_le, le-trans}

odd-one : (n : ℕ) → (n % 2 ≡ 0 → ⊥) → n % 2 ≡ 1
odd-one n h = elim (cases_lt (n % 2) 1) as (λ _. n % 2 ≡ 1) [
  | inl none ↦ absurd (h (omega arith))
  | inr some ↦ omega arith
]

pub is_odd-at_one : (n : ℕ) → n % 2 ≡ 1 → is_odd n ≡ true
is_odd-at_one n e = ap (λ m. m == 1) e

pub is_odd-at_zero : (n : ℕ) → n % 2 ≡ 0 → is_odd n ≡ false
is_odd-at_zero n e = ap (λ m. m == 1) e

-- what a test for odd numbers says
pub even-from_test : (r : Bool) (n : ℕ) → r ≡ is_odd n → r ≡ false → n % 2 ≡ 0
even-from_test r n e off = elim (cases_lt (n % 2) 1) as (λ _. n % 2 ≡ 0) [
  | inl none ↦ omega (arith, none)
  | inr some ↦
      let one : n % 2 ≡ 1 = omega (arith, some) in
      absurd (true≢false (sym (is_odd-at_one n one) ∙ sym e ∙ off))
]

pub odd-from_test : (r : Bool) (n : ℕ) → r ≡ is_odd n → r ≡ true → n % 2 ≡ 0 → ⊥
odd-from_test r n e on even = true≢false (sym on ∙ e ∙ is_odd-at_zero n even)

module _ {K : Type 0} (order : K → K → Ordering) where
  -- the first range of a list whose first item is at or below the value, and whose second is above
  -- it, holds the value
  first_holds : (v : K) (ys : List K) (r : RangeSetRange K) (rest : List (RangeSetRange K)) → ranges_of ys ≡ r ∷ rest →
      ((d : K) → 0 < length ys → is_le (order (get_or ys 0 d) v) ≡ true) → ((d : K) → 1 < length ys → order v (get_or ys 1 d) ≡ Less) →
      IsInRange order r v
  first_holds v [] r rest e low high = absurd (cc)
  first_holds v (x ∷ []) r rest e low high =
      let same : RangeFrom (record { start = x }) ≡ r = cc in
      subst (λ s. IsInRange order s v) same (low v (omega arith))
  first_holds v (x ∷ y ∷ ys) r rest e low high =
      let same : Range (record { start = x; end = y }) ≡ r = cc in
      subst (λ s. IsInRange order s v) same (low v (omega arith), high v (omega arith))

module _ {K : Type 0} {order : K → K → Ordering} (o : IsTotalOrder order) where
  -- ---- a count of the items at or below a value
  module _ (v : K) (xs : List K) (n : ℕ) (within : n ≤ length xs)
      (before : AllWithin (λ y. is_le (order y v) ≡ true) xs 0 n) (from : AllWithin (λ y. order y v ≡ Greater) xs n (length xs)) where
    pub member-even : n % 2 ≡ 0 → member order xs v ≡ false
    member-even even = ap is_odd (count_up_to-split order v xs n within before from) ∙ is_odd-at_zero n even

    pub member-odd : (n % 2 ≡ 0 → ⊥) → member order xs v ≡ true
    member-odd odd = ap is_odd (count_up_to-split order v xs n within before from) ∙ is_odd-at_one n (odd-one n odd)

    -- the value itself is no member of the range from it on
    pub not_all_within : (end : K) → order v end ≡ Less → n % 2 ≡ 0 → HasAllWithin order xs v end → ⊥
    not_all_within end less even all = true≢false (sym (all v (ap is_le (Equal-self o v)) less) ∙ member-even even)

    -- what a call from the front gives of the items from the one before place n on
    module _ (odd : n % 2 ≡ 0 → ⊥) (ys zs : List K) (is : ys ≡ drop (n - 1) xs) where
      some : 0 < n
      some = let e : n % 2 ≡ 1 = odd-one n odd in omega (arith, e)

      at : (k : ℕ) (d : K) → get_or ys k d ≡ get_or xs (n - 1 + k) d
      at k d = ap (λ l. get_or l k d) is ∙ get_or-drop (n - 1) xs k d

      left : length ys ≡ length xs - (n - 1)
      left = ap length is ∙ length-drop (n - 1) xs

      pub IsSome-at : (r : Option (RangeSetRange (Bor K))) → YieldsFirstBy range_now ranges_of ys r zs → IsSome r
      IsSome-at None h = absurd (omega (arith, left, some, within, ap length (nil-from_ranges ys h.0)))
      IsSome-at (Some range) h = refl

      pub Contains-at : (r : Option (RangeSetRange (Bor K))) → YieldsFirstBy range_now ranges_of ys r zs →
          IfSome r (λ range. Contains (ranges_of xs) (range_now range))
      Contains-at None h = tt
      Contains-at (Some range) h =
          let even : length (take (n - 1) xs) % 2 ≡ 0 = let e : n % 2 ≡ 1 = odd-one n odd in omega (arith, e, length-take-le (n - 1) xs (omega (arith, within))) in
          subst (λ rs. Contains rs (range_now range))
          (sym (ap ranges_of (sym (take-append-drop (n - 1) xs)) ∙ ranges_of-append (take (n - 1) xs) (drop (n - 1) xs) even))
          (Contains-append_right (ranges_of (take (n - 1) xs)) (ranges_of (drop (n - 1) xs)) (range_now range)
          (subst (λ rs. Contains rs (range_now range)) (sym h ∙ ap ranges_of is) (0, omega arith, refl)))

      pub IsInRange-at : (r : Option (RangeSetRange (Bor K))) → YieldsFirstBy range_now ranges_of ys r zs →
          IfSome r (λ range. IsInRange order (range_now range) v)
      IsInRange-at None h = tt
      IsInRange-at (Some range) h =
          first_holds order v ys (range_now range) (ranges_of zs) h
          (λ d more. rw (at 0 d) (before (n - 1 + 0) d (omega arith) (omega (arith, some))))
          (λ d more. rw (at 1 d) (Less-from_greater o (get_or xs (n - 1 + 1) d) v (from (n - 1 + 1) d (omega (arith, some)) (omega (arith, some, left, more, within)))))

  -- ---- a start below an end, n items at or below the start, and m items below the end
  module _ (start end : K) (xs : List K) (n m : ℕ) (up : IsAscending order xs) (less : order start end ≡ Less)
      (within_n : n ≤ length xs) (before_n : AllWithin (λ y. is_le (order y start) ≡ true) xs 0 n) (from_n : AllWithin (λ y. order y start ≡ Greater) xs n (length xs))
      (within_m : m ≤ length xs) (before_m : AllWithin (λ y. order y end ≡ Less) xs 0 m) (from_m : AllWithin (λ y. is_le (order end y) ≡ true) xs m (length xs)) where
    pub counts_ordered : n ≤ m
    counts_ordered =
        elim (cases_lt m n) as (λ _. n ≤ m) [
          | inl crossed ↦
              let high : is_le (order end (get_or xs m start)) ≡ true = from_m m start (omega arith) (omega (arith, within_n, crossed)) in
              let low : is_le (order (get_or xs m start) start) ≡ true = before_n m start (omega arith) crossed in
              let off : order end end ≡ Less = Less-from_le o end start end (le-trans o end (get_or xs m start) start high low) less in
              let same : order end end ≡ Equal = Equal-self o end in
              absurd (cc)
          | inr fine ↦ fine
        ]

  -- an empty range or a reversed one has no element
  pub HasAllWithin-nothing : (start end : K) (xs : List K) → is_lt (order start end) ≡ false → HasAllWithin order xs start end
  HasAllWithin-nothing start end xs reversed x far low = absurd (true≢false (ap is_lt (sym (Less-from_le o start x end far low)) ∙ reversed))

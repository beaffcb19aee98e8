-- The ranges of a set that share an element with a range: those from the one that the start lies in
-- or before, up to the last one that begins below the end.
use Rattle.std.proofs.Common.{◌≡◌, ℕ, suc, ◌+◌, ◌-◌, ◌%◌, ◌<◌, ◌≤◌, ◌&&◌, Bool, true, false, cond, List, [], ◌∷◌, ◌++◌, length, take, drop, get_or, filter, refl, sym, ap, ap₂, ◌∙◌, All, arith, true≢false, inl, inr}
use Rattle.std.specs.List.{AllWithin}
use Rattle.std.specs.Cmp.{IsTotalOrder}
use Rattle.std.proofs.lemmas.Bool.{cases_lt}
use Rattle.std.proofs.lemmas.List.{append-nil, length-drop, length-take-le, drop-drop, get_or-drop, get_or-take, take-append-drop}
use Rattle.std.proofs.lemmas.List.Elements.{All-head, All-tail, filter-append}
use Rattle.std.specs.declared.cmp.Ordering.{Ordering}
use Rattle.std.specs.declared.cmp.Ordering.TheVariants.{Less, Greater}
use Rattle.std.specs.Ordering.{is_le, is_lt}
use Rattle.range_merge.proofs.Members.{by_Ordering}
use Rattle.range_merge.proofs.Orders.{Greater-from_less, Less-from_greater}
use Rattle.range_collections.specs.Overlapping.{overlaps}
use Rattle.range_collections.specs.Ranges.{ranges_of}
use Rattle.range_collections.specs.declared.range_set_range.RangeSetRange.{RangeSetRange}
use Rattle.range_collections.specs.declared.range_set_range.RangeSetRange.TheVariants.{Range, RangeFrom}
use Rattle.range_collections.proofs.Cut.{All-take_within, All-drop_within}
use Rattle.range_collections.proofs.RangesAtEnds.{ranges_of-append}

-- a test that fails at the first item, or passes
filter-out : {X : Type 0} (f : X → Bool) (x : X) (xs : List X) → f x ≡ false → filter f (x ∷ xs) ≡ filter f xs
filter-out f x xs h = ap (λ b. cond b (x ∷ filter f xs) (filter f xs)) h

filter-in : {X : Type 0} (f : X → Bool) (x : X) (xs : List X) → f x ≡ true → filter f (x ∷ xs) ≡ x ∷ filter f xs
filter-in f x xs h = ap (λ b. cond b (x ∷ filter f xs) (filter f xs)) h

and-false : (b c : Bool) → c ≡ false → (b && c) ≡ false
and-false true c h = h
and-false false c h = refl

module _ {K : Type 0} (order : K → K → Ordering) (o : IsTotalOrder order) (start end : K) where
  not_lt : (x y : K) → is_le (order x y) ≡ true → is_lt (order y x) ≡ false
  not_lt x y h =
      by_Ordering (order y x) (λ l. absurd (true≢false (sym h ∙ ap is_le (Greater-from_less o y x l)))) (λ e. ap is_lt e) (λ g. ap is_lt g)

  -- shares an element with the range
  abbrev meets : RangeSetRange K → Bool
  meets = overlaps order start end

  -- a range without elements shares none
  pub overlaps-nothing : is_lt (order start end) ≡ false → (rs : List (RangeSetRange K)) → filter meets rs ≡ []
  overlaps-nothing h [] = refl
  overlaps-nothing h (Range r ∷ rs) =
      filter-out meets (Range r) rs (ap (λ b. b && (is_lt (order r.start end) && is_lt (order start r.end))) h) ∙ overlaps-nothing h rs
  overlaps-nothing h (RangeFrom r ∷ rs) =
      filter-out meets (RangeFrom r) rs (ap (λ b. b && is_lt (order r.start end)) h) ∙ overlaps-nothing h rs

  -- nor does a range that ends at or below the start
  before : (xs : List K) → length xs % 2 ≡ 0 → All (λ x. is_le (order x start) ≡ true) xs → filter meets (ranges_of xs) ≡ []
  before [] even h = refl
  before (x ∷ []) even h = absurd (omega (arith, even))
  before (x ∷ y ∷ rest) even h =
      let P : K → Type 0 = λ x. is_le (order x start) ≡ true in
      let later : All P (y ∷ rest) = All-tail P x (y ∷ rest) h in
      filter-out meets (Range (record { start = x; end = y })) (ranges_of rest)
      (and-false (is_lt (order start end)) _ (and-false (is_lt (order x end)) _ (not_lt y start (All-head P y rest later))))
      ∙ before rest (omega (arith, even)) (All-tail P y rest later)

  -- nor one that begins at or above the end
  behind : (xs : List K) → All (λ x. is_le (order end x) ≡ true) xs → filter meets (ranges_of xs) ≡ []
  behind [] h = refl
  behind (x ∷ []) h =
      filter-out meets (RangeFrom (record { start = x })) []
      (and-false (is_lt (order start end)) _ (not_lt end x (All-head (λ x. is_le (order end x) ≡ true) x [] h)))
  behind (x ∷ y ∷ rest) h =
      let P : K → Type 0 = λ x. is_le (order end x) ≡ true in
      filter-out meets (Range (record { start = x; end = y })) (ranges_of rest)
      (and-false (is_lt (order start end)) _ (ap (λ b. b && is_lt (order start y)) (not_lt end x (All-head P x (y ∷ rest) h))))
      ∙ behind rest (All-tail P y rest (All-tail P x (y ∷ rest) h))

  module _ (some : is_lt (order start end) ≡ true) where
    -- the others do: each begins below the end, and ends above the start
    inside : (xs : List K) → ((i : ℕ) (d : K) → i < length xs → i % 2 ≡ 0 → order (get_or xs i d) end ≡ Less) →
        ((i : ℕ) (d : K) → i < length xs → i % 2 ≡ 1 → order start (get_or xs i d) ≡ Less) → filter meets (ranges_of xs) ≡ ranges_of xs
    inside [] low high = refl
    inside (x ∷ []) low high =
        filter-in meets (RangeFrom (record { start = x })) [] (ap₂ (λ b c. b && is_lt c) some (low 0 x (omega arith) refl))
    inside (x ∷ y ∷ rest) low high =
        filter-in meets (Range (record { start = x; end = y })) (ranges_of rest)
        (ap₂ (λ b c. b && c) some (ap₂ (λ b c. is_lt b && is_lt c) (low 0 x (omega arith) refl) (high 1 x (omega arith) refl)))
        ∙ ap (λ rs. Range (record { start = x; end = y }) ∷ rs)
        (inside rest (λ i d within even. low (suc (suc i)) d (omega arith) (omega (arith, even))) (λ i d within odd. high (suc (suc i)) d (omega arith) (omega (arith, odd))))

    -- n items are at or below the start, and m below the end; f and t are n and m at the ends of
    -- ranges
    module _ (xs : List K) (n m f t : ℕ) (ordered : n ≤ m) (n_in : n ≤ length xs) (m_in : m ≤ length xs)
        (up_to : AllWithin (λ x. is_le (order x start) ≡ true) xs 0 n) (above : AllWithin (λ x. order x start ≡ Greater) xs n (length xs))
        (below : AllWithin (λ x. order x end ≡ Less) xs 0 m) (from : AllWithin (λ x. is_le (order end x) ≡ true) xs m (length xs))
        (f_is : f + n % 2 ≡ n) (m_t : m ≤ t) (t_in : t ≤ length xs) (t_low : t ≤ m + m % 2) (t_even : t < length xs → t % 2 ≡ 0) where
      abbrev mid : List K
      mid = take (t - f) (drop f xs)

      f_even : f % 2 ≡ 0
      f_even = omega (arith, f_is)

      f_t : f ≤ t
      f_t = omega (arith, f_is, ordered, m_t)

      length-mid : length mid ≡ t - f
      length-mid = length-take-le (t - f) (drop f xs) (omega (arith, length-drop f xs, t_in))

      item : (i : ℕ) (d : K) → i < length mid → get_or mid i d ≡ get_or xs (f + i) d
      item i d within = get_or-take (t - f) (drop f xs) i d (omega (arith, within, length-mid)) ∙ get_or-drop f xs i d

      low : (i : ℕ) (d : K) → i < length mid → i % 2 ≡ 0 → order (get_or mid i d) end ≡ Less
      low i d within even =
          rw (item i d within) (below (f + i) d (omega arith) (omega (arith, within, length-mid, f_t, even, f_even, t_low)))

      high : (i : ℕ) (d : K) → i < length mid → i % 2 ≡ 1 → order start (get_or mid i d) ≡ Less
      high i d within odd =
          rw (item i d within)
          (Less-from_greater o (get_or xs (f + i) d) start
          (above (f + i) d (omega (arith, odd, f_is)) (omega (arith, within, length-mid, f_t, t_in))))

      rest_is : drop (t - f) (drop f xs) ≡ drop t xs
      rest_is = let sum : f + (t - f) ≡ t = omega (arith, f_t) in drop-drop (t - f) f xs ∙ ap (λ i. drop i xs) sum

      last : filter meets (ranges_of (drop t xs)) ≡ []
      last =
          behind (drop t xs)
          (All-drop_within order (λ x. is_le (order end x) ≡ true) t xs t_in (λ i d least more. from i d (omega (arith, least, m_t)) more))

      split : ranges_of (drop f xs) ≡ ranges_of mid ++ ranges_of (drop t xs)
      split =
          ap ranges_of (sym (take-append-drop (t - f) (drop f xs)))
          ∙ ap (λ ys. ranges_of (mid ++ ys)) rest_is
          ∙ elim (cases_lt t (length xs)) as (λ _. ranges_of (mid ++ drop t xs) ≡ ranges_of mid ++ ranges_of (drop t xs)) [
            | inl more ↦ ranges_of-append mid (drop t xs) (omega (arith, length-mid, f_t, f_even, t_even more))
            | inr all ↦ rw (nothing (drop t xs) (omega (arith, length-drop t xs, all))) (ap ranges_of (append-nil mid) ∙ sym (append-nil (ranges_of mid)))
          ]
        where
          nothing : (ys : List K) → length ys ≡ 0 → ys ≡ []
          nothing [] e = refl
          nothing (y ∷ ys) e = absurd (omega (arith, e))

      pub overlapping-places : ranges_of mid ≡ filter meets (ranges_of xs)
      overlapping-places =
          let first : List K = take f xs in
          let even : length first % 2 ≡ 0 = omega (arith, length-take-le f xs (omega (arith, f_is, n_in)), f_even) in
          sym
          (ap (λ ys. filter meets (ranges_of ys)) (sym (take-append-drop f xs))
          ∙ ap (filter meets) (ranges_of-append first (drop f xs) even)
          ∙ filter-append meets (ranges_of first) (ranges_of (drop f xs))
          ∙ ap₂ (λ ps qs. ps ++ filter meets qs)
          (before first even (All-take_within order (λ x. is_le (order x start) ≡ true) f xs (omega (arith, f_is, n_in)) (λ i d least few. up_to i d least (omega (arith, few, f_is)))))
          split
          ∙ filter-append meets (ranges_of mid) (ranges_of (drop t xs))
          ∙ ap₂ (λ ps qs. ps ++ qs) (inside mid low high) last
          ∙ append-nil (ranges_of mid))

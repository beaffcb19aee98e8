-- The ranges of a map that share a key with a range: those of the steps from the last one at or
-- below its start on.
use Rattle.std.proofs.Common.{◌≡◌, ℕ, ◌+◌, ◌-◌, ◌<◌, ◌≤◌, ◌&&◌, zero, suc, inl, inr, Bool, true, false, cond, None, Some, Option, List, [], ◌∷◌, ◌++◌, length, take, drop, get_or, filter, refl, sym, ap, ap₂, ◌∙◌, All, arith, true≢false}
use Rattle.std.proofs.lemmas.Bool.{cases_lt}
use Rattle.std.specs.List.{AllWithin}
use Rattle.std.specs.Cmp.{IsTotalOrder}
use Rattle.std.proofs.lemmas.List.{append-nil, length-drop, length-take-le, drop-drop, get_or-drop, get_or-take}
use Rattle.std.proofs.lemmas.List.Elements.{All-head, All-tail, filter-append}
use Rattle.std.specs.declared.cmp.Ordering.{Ordering}
use Rattle.std.specs.declared.cmp.Ordering.TheVariants.{Less, Greater}
use Rattle.std.specs.Ordering.{is_le, is_lt}
use Rattle.range_merge.proofs.Members.{by_Ordering}
use Rattle.range_merge.proofs.Orders.{Greater-from_less, Less-from_greater}
use Rattle.range_collections.specs.declared.range_set_range.RangeSetRange.{RangeSetRange}
use Rattle.range_collections.specs.declared.range_set_range.RangeSetRange.TheVariants.{Range, RangeFrom}
use Rattle.range_collections.proofs.Shortest.{le-trans}
use Rattle.range_collections.proofs.Cut.{All-take_within, All-drop_within}
use Rattle.range_map.specs.Entries.{range_until, first_or, entries_until, overlaps}
use Rattle.range_map.proofs.EntriesLemmas.{entries-split}
use Rattle.range_map.proofs.FreeRanges.{less_to}

-- a test that fails at the first item, or passes
pub filter-out : {X : Type 0} (f : X → Bool) (x : X) (xs : List X) → f x ≡ false → filter f (x ∷ xs) ≡ filter f xs
filter-out f x xs h = ap (λ b. cond b (x ∷ filter f xs) (filter f xs)) h

pub filter-in : {X : Type 0} (f : X → Bool) (x : X) (xs : List X) → f x ≡ true → filter f (x ∷ xs) ≡ x ∷ filter f xs
filter-in f x xs h = ap (λ b. cond b (x ∷ filter f xs) (filter f xs)) h

pub and-false : (b c : Bool) → c ≡ false → (b && c) ≡ false
and-false true c h = h
and-false false c h = refl

pub first_or-at : {K : Type 0} (n : ℕ) (ks : List K) (end : Option K) (d : K) → n < length ks → first_or (drop n ks) end ≡ Some (get_or ks n d)
first_or-at n [] end d within = absurd (omega (arith, within))
first_or-at zero (k ∷ ks) end d within = refl
first_or-at (suc n) (k ∷ ks) end d within = first_or-at n ks end d (omega (arith, within))

module _ {K : Type 0} (order : K → K → Ordering) (o : IsTotalOrder order) where
  pub not_lt : (x y : K) → is_le (order x y) ≡ true → is_lt (order y x) ≡ false
  not_lt x y h =
      by_Ordering (order y x) (λ l. absurd (true≢false (sym h ∙ ap is_le (Greater-from_less o y x l)))) (λ e. ap is_lt e) (λ g. ap is_lt g)

module _ {K : Type 0} (order : K → K → Ordering) (start : K) where
  pub first-above : (ks : List K) (e : Option K) → All (λ k. order start k ≡ Less) ks → ((z : K) → e ≡ Some z → order start z ≡ Less) →
      (z : K) → first_or ks e ≡ Some z → order start z ≡ Less
  first-above [] e h a = a
  first-above (k ∷ ks) e h a = less_to order start k (All-head (λ k. order start k ≡ Less) k ks h)

module _ {K V : Type 0} (order : K → K → Ordering) (o : IsTotalOrder order) (start end : K) where
  -- shares a key with the range
  abbrev meets : RangeSetRange K × V → Bool
  meets = overlaps order start end

  -- a range without keys shares none
  pub overlaps-nothing : is_lt (order start end) ≡ false → (es : List (RangeSetRange K × V)) → filter meets es ≡ []
  overlaps-nothing h [] = refl
  overlaps-nothing h ((Range r, v) ∷ es) =
      filter-out meets (Range r, v) es (ap (λ b. b && (is_lt (order r.start end) && is_lt (order start r.end))) h) ∙ overlaps-nothing h es
  overlaps-nothing h ((RangeFrom r, v) ∷ es) =
      filter-out meets (RangeFrom r, v) es (ap (λ b. b && is_lt (order r.start end)) h) ∙ overlaps-nothing h es

  -- nor does one that ends at or below the start
  before : (ks : List K) (ps : List (Option V)) (e : K) → All (λ k. is_le (order k start) ≡ true) ks → is_le (order e start) ≡ true →
      filter meets (entries_until ks ps (Some e)) ≡ []
  before [] ps e h l = refl
  before (k ∷ ks) [] e h l = refl
  before (k ∷ ks) (None ∷ ps) e h l = before ks ps e (All-tail (λ k. is_le (order k start) ≡ true) k ks h) l
  before (k ∷ ks) (Some v ∷ ps) e h l =
      let later = All-tail (λ k. is_le (order k start) ≡ true) k ks h in
      filter-out meets (range_until k (first_or ks (Some e)), v) (entries_until ks ps (Some e)) (ends ks later) ∙ before ks ps e later l
    where
      ends : (zs : List K) → All (λ k. is_le (order k start) ≡ true) zs → meets (range_until k (first_or zs (Some e)), v) ≡ false
      ends [] a = and-false (is_lt (order start end)) _ (and-false (is_lt (order k end)) _ (not_lt order o e start l))
      ends (z ∷ zs) a =
          and-false (is_lt (order start end)) _ (and-false (is_lt (order k end)) _ (not_lt order o z start (All-head (λ k. is_le (order k start) ≡ true) z zs a)))

  -- nor one that begins at or above the end
  behind : (ks : List K) (ps : List (Option V)) (e : Option K) → All (λ k. is_le (order end k) ≡ true) ks → filter meets (entries_until ks ps e) ≡ []
  behind [] ps e h = refl
  behind (k ∷ ks) [] e h = refl
  behind (k ∷ ks) (None ∷ ps) e h = behind ks ps e (All-tail (λ k. is_le (order end k) ≡ true) k ks h)
  behind (k ∷ ks) (Some v ∷ ps) e h =
      filter-out meets (range_until k (first_or ks e), v) (entries_until ks ps e) (starts (first_or ks e))
      ∙ behind ks ps e (All-tail (λ k. is_le (order end k) ≡ true) k ks h)
    where
      off : is_lt (order k end) ≡ false
      off = not_lt order o end k (All-head (λ k. is_le (order end k) ≡ true) k ks h)

      starts : (r : Option K) → meets (range_until k r, v) ≡ false
      starts None = and-false (is_lt (order start end)) _ off
      starts (Some z) = and-false (is_lt (order start end)) _ (ap (λ b. b && is_lt (order start z)) off)

  module _ (some : is_lt (order start end) ≡ true) where
    -- the others do
    meets-at : (k : K) (v : V) (r : Option K) → order k end ≡ Less → ((z : K) → r ≡ Some z → order start z ≡ Less) → meets (range_until k r, v) ≡ true
    meets-at k v None l a = ap₂ (λ b c. b && is_lt c) some l
    meets-at k v (Some z) l a = ap₂ (λ b c. b && c) some (ap₂ (λ b c. is_lt b && is_lt c) l (a z refl))

    inside : (ks : List K) (ps : List (Option V)) (e : Option K) → All (λ k. order k end ≡ Less) ks → All (λ k. order start k ≡ Less) (drop 1 ks) →
        ((z : K) → e ≡ Some z → order start z ≡ Less) → filter meets (entries_until ks ps e) ≡ entries_until ks ps e
    inside [] ps e h b a = refl
    inside (k ∷ ks) [] e h b a = refl
    inside (k ∷ ks) (None ∷ ps) e h b a = inside ks ps e (All-tail (λ k. order k end ≡ Less) k ks h) (less_tail ks b) a
      where
        less_tail : (ks : List K) → All (λ k. order start k ≡ Less) ks → All (λ k. order start k ≡ Less) (drop 1 ks)
        less_tail [] b = b
        less_tail (k ∷ ks) b = All-tail (λ k. order start k ≡ Less) k ks b
    inside (k ∷ ks) (Some v ∷ ps) e h b a =
        filter-in meets (range_until k (first_or ks e), v) (entries_until ks ps e)
        (meets-at k v (first_or ks e) (All-head (λ k. order k end ≡ Less) k ks h) (first-above order start ks e b a))
        ∙ ap (λ es. (range_until k (first_or ks e), v) ∷ es) (inside ks ps e (All-tail (λ k. order k end ≡ Less) k ks h) (less_tail ks b) a)
      where
        less_tail : (ks : List K) → All (λ k. order start k ≡ Less) ks → All (λ k. order start k ≡ Less) (drop 1 ks)
        less_tail [] b = b
        less_tail (k ∷ ks) b = All-tail (λ k. order start k ≡ Less) k ks b

    module _ (ks : List K) (ps : List (Option V)) (same : length ps ≡ length ks) (n to : ℕ) (n_in : n ≤ length ks) (to_in : to ≤ length ks)
        (up_to : AllWithin (λ k. is_le (order k start) ≡ true) ks 0 n) (above : AllWithin (λ k. order k start ≡ Greater) ks n (length ks))
        (below : AllWithin (λ k. order k end ≡ Less) ks 0 to) (from : AllWithin (λ k. is_le (order end k) ≡ true) ks to (length ks)) where
      pub ordered : n ≤ to
      ordered =
          elim (cases_lt to n) as (λ _. n ≤ to) [
            | inl h ↦
                let k : K = get_or ks to start in
                let le = le-trans o end k start (from to start (omega arith) (omega (arith, h, n_in))) (up_to to start (omega arith) h) in
                absurd (true≢false (sym some ∙ not_lt order o end start le))
            | inr h ↦ omega (arith, h)
          ]

      -- the last step at or below the start comes first
      pub places-ordered : n - 1 ≤ to
      places-ordered = omega (arith, ordered)

      front : filter meets (entries_until (take (n - 1) ks) (take (n - 1) ps) (first_or (drop (n - 1) ks) None)) ≡ []
      front = at_front n n_in up_to
        where
          at_front : (n : ℕ) → n ≤ length ks → AllWithin (λ k. is_le (order k start) ≡ true) ks 0 n →
              filter meets (entries_until (take (n - 1) ks) (take (n - 1) ps) (first_or (drop (n - 1) ks) None)) ≡ []
          at_front zero n_in up_to = refl
          at_front (suc m) n_in up_to =
              let one : suc m - 1 ≡ m = omega arith in
              rw one
              (ap (λ e. filter meets (entries_until (take m ks) (take m ps) e)) (first_or-at m ks None start (omega (arith, n_in)))
              ∙ before (take m ks) (take m ps) (get_or ks m start)
              (All-take_within order (λ k. is_le (order k start) ≡ true) m ks (omega (arith, n_in)) (λ i d low high. up_to i d low (omega (arith, high))))
              (up_to m start (omega arith) (omega arith)))

      -- how many steps there are
      abbrev count : ℕ
      count = to - (n - 1)

      back_is : {X : Type 0} (xs : List X) → drop count (drop (n - 1) xs) ≡ drop to xs
      back_is xs = let sum : n - 1 + count ≡ to = omega (arith, places-ordered) in drop-drop count (n - 1) xs ∙ ap (λ i. drop i xs) sum

      mid_keys : (P : K → Type 0) (i : ℕ) → AllWithin P ks (n - 1 + i) to → AllWithin P (take count (drop (n - 1) ks)) i (length (take count (drop (n - 1) ks)))
      mid_keys P i h j d low high =
          let j_in : j < count = omega (arith, high, length-take-le count (drop (n - 1) ks) (omega (arith, length-drop (n - 1) ks, to_in))) in
          rw (get_or-take count (drop (n - 1) ks) j d j_in, get_or-drop (n - 1) ks j d) (h (n - 1 + j) d (omega (arith, low)) (omega (arith, j_in, places-ordered)))

      middle : filter meets (entries_until (take count (drop (n - 1) ks)) (take count (drop (n - 1) ps)) (first_or (drop to ks) None))
          ≡ entries_until (take count (drop (n - 1) ks)) (take count (drop (n - 1) ps)) (first_or (drop to ks) None)
      middle =
          inside (take count (drop (n - 1) ks)) (take count (drop (n - 1) ps)) (first_or (drop to ks) None)
          (λ j d within. mid_keys (λ k. order k end ≡ Less) 0 (λ i e low high. below i e (omega arith) high) j d (omega arith) within)
          (All-drop_from (take count (drop (n - 1) ks)) (mid_keys (λ k. order start k ≡ Less) 1 (λ i e low high. above_start i e (omega (arith, low)) (omega (arith, high, to_in)))))
          (first-above order start (drop to ks) None
          (All-drop_within order (λ k. order start k ≡ Less) to ks to_in (λ i e low high. above_start i e (omega (arith, low, ordered)) high))
          (λ z none. absurd (none_is z none)))
        where
          above_start : (i : ℕ) (e : K) → n ≤ i → i < length ks → order start (get_or ks i e) ≡ Less
          above_start i e low high = Less-from_greater o (get_or ks i e) start (above i e low high)

          All-drop_from : (zs : List K) → AllWithin (λ k. order start k ≡ Less) zs 1 (length zs) → All (λ k. order start k ≡ Less) (drop 1 zs)
          All-drop_from [] h i d within = absurd (omega (arith, within))
          All-drop_from (z ∷ zs) h i d within = h (suc i) d (omega arith) (omega (arith, within))

          none_is : (z : K) → None ≡ Some z → ⊥
          none_is z none = absurd (cc)

      pub overlapping-places : entries_until (take count (drop (n - 1) ks)) (take count (drop (n - 1) ps)) (first_or (drop to ks) None)
          ≡ filter meets (entries_until ks ps None)
      overlapping-places =
          let f : ℕ = n - 1 in
          let first = entries_until (take f ks) (take f ps) (first_or (drop f ks) None) in
          let rest = entries_until (drop f ks) (drop f ps) None in
          let mid = entries_until (take count (drop f ks)) (take count (drop f ps)) (first_or (drop to ks) None) in
          let last = entries_until (drop to ks) (drop to ps) None in
          let split : rest ≡ mid ++ last =
          entries-split count (drop f ks) (drop f ps) None (omega (arith, same, length-drop f ks, length-drop f ps)) (omega (arith, length-drop f ks, to_in))
          ∙ ap₂ (λ ls us. entries_until (take count (drop f ks)) (take count (drop f ps)) (first_or ls None) ++ entries_until ls us None) (back_is ks) (back_is ps) in
          sym (ap (filter meets) (entries-split f ks ps None same (omega (arith, n_in)))
          ∙ filter-append meets first rest
          ∙ ap₂ (λ xs ys. xs ++ filter meets ys) front split
          ∙ filter-append meets mid last
          ∙ ap₂ (λ xs ys. xs ++ ys) middle (behind (drop to ks) (drop to ps) None (All-drop_within order (λ k. is_le (order end k) ≡ true) to ks to_in from))
          ∙ append-nil mid)

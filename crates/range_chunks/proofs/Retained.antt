-- Whole ranges that move down where they stay.
use Rattle.std.proofs.Common.{◌≡◌, ap₂, ℕ, zero, suc, ◌+◌, ◌-◌, ◌%◌, ◌<◌, ◌≤◌, inl, inr, Bool, true, false, cond, filter, List, [], ◌∷◌, ◌++◌, append_assoc, length, take, drop, set, get_or, sym, ap, ◌∙◌, refl, subst, arith}
use Rattle.std.proofs.lemmas.Bool.{cases_lt, cases_Bool}
use Rattle.std.proofs.lemmas.List.{append-nil, take_all, drop-drop, drop_all, drop_more, drop-set-lt, length-set, length-drop, length-take-le, take-append-drop, get_or-drop, take-set-le, take_more_set}
use Rattle.std.proofs.lemmas.List.Edits.{swap_is}
use Rattle.std.proofs.lemmas.List.Elements.{All-append, filter-append}
use Rattle.std.specs.List.{swap}
use Rattle.std.specs.declared.cmp.Ordering.{Ordering}
use Rattle.std.specs.declared.cmp.Ordering.TheVariants.{Less}
use Rattle.range_merge.specs.Boundaries.{IsAscending}
use Rattle.range_collections.specs.Ranges.{ranges_of}
use Rattle.range_collections.specs.declared.range_set_range.RangeSetRange.{RangeSetRange}
use Rattle.range_collections.specs.declared.range_set_range.RangeSetRange.TheVariants.{Range, RangeFrom}
use Rattle.range_collections.proofs.Ascending.{IsAscending-head, IsAscending-tail, IsAscending-cons}
use Rattle.range_collections.proofs.FirstParts.{All-front, All-back}
use Rattle.range_collections.proofs.RangesAtEnds.{ranges_of-append}

-- ---- one item moved down

module _ {X : Type 0} (xs moved : List X) (len i : ℕ) (ordered : len ≤ i) (within : i < length xs) (is : moved ≡ swap xs len i) (d : X) where
  as_sets : moved ≡ set (set xs len (get_or xs i d)) i (get_or xs len d)
  as_sets = is ∙ sym (swap_is xs len i d (omega (arith, ordered, within)) within)

  pub length-moved : length moved ≡ length xs
  length-moved =
      ap length as_sets ∙ length-set (set xs len (get_or xs i d)) i (get_or xs len d) ∙ length-set xs len (get_or xs i d)

  pub take-moved : take (len + 1) moved ≡ take len xs ++ get_or xs i d ∷ []
  take-moved =
      ap (take (len + 1)) as_sets
      ∙ elim (cases_lt len i) as (λ _. take (len + 1) (set (set xs len (get_or xs i d)) i (get_or xs len d)) ≡ take len xs ++ get_or xs i d ∷ []) [
        | inl less ↦
            take-set-le (len + 1) (set xs len (get_or xs i d)) i (get_or xs len d) (omega (arith, less))
            ∙ take_more_set xs len (get_or xs i d) (omega (arith, ordered, within))
        | inr more ↦
            let same : i ≡ len = omega (arith, ordered, more) in
            rw same
            (take_more_set (set xs len (get_or xs len d)) len (get_or xs len d) (omega (arith, within, ordered, length-set xs len (get_or xs len d)))
            ∙ ap (λ ys. ys ++ get_or xs len d ∷ []) (take-set-le len xs len (get_or xs len d) (omega arith)))
      ]

  -- those behind it stay
  pub drop-moved : drop (i + 1) moved ≡ drop (i + 1) xs
  drop-moved =
      ap (drop (i + 1)) as_sets
      ∙ drop-set-lt (i + 1) (set xs len (get_or xs i d)) i (get_or xs len d) (omega arith)
      ∙ drop-set-lt (i + 1) xs len (get_or xs i d) (omega (arith, ordered))

-- ---- what stands from a place on

pub first_of : {X : Type 0} (xs : List X) (n : ℕ) → n < length xs → X
first_of [] n within = absurd (omega (arith, within))
first_of (x ∷ xs) n within = x

pub get_or-alike : {X : Type 0} (xs ys : List X) (n : ℕ) (d : X) → drop n xs ≡ drop n ys → get_or xs n d ≡ get_or ys n d
get_or-alike xs ys n d h =
    let none : n + 0 ≡ n = omega arith in
    ap (λ m. get_or xs m d) (sym none) ∙ sym (get_or-drop n xs 0 d) ∙ ap (λ zs. get_or zs 0 d) h ∙ get_or-drop n ys 0 d ∙ ap (λ m. get_or ys m d) none

pub drop-alike : {X : Type 0} (xs ys : List X) (m n : ℕ) → drop n xs ≡ drop n ys → drop (n + m) xs ≡ drop (n + m) ys
drop-alike xs ys m n h = sym (drop-drop m n xs) ∙ ap (drop m) h ∙ drop-drop m n ys

module _ {X : Type 0} (xs : List X) (i : ℕ) (d : X) where
  pub two_from : i + 1 < length xs → take 2 (drop i xs) ≡ get_or xs i d ∷ get_or xs (i + 1) d ∷ []
  two_from within =
      ap (take 2) (drop_more xs i d (omega (arith, within)) ∙ ap (λ ys. get_or xs i d ∷ ys) (drop_more xs (i + 1) d within))

  pub one_from : i < length xs → length xs ≤ i + 1 → take 2 (drop i xs) ≡ get_or xs i d ∷ []
  one_from within past =
      ap (take 2) (drop_more xs i d within ∙ ap (λ ys. get_or xs i d ∷ ys) (drop_all (i + 1) xs past))

length-two : {X : Type 0} (xs : List X) → length (take 2 xs) ≤ 2
length-two [] = omega arith
length-two (x ∷ []) = omega arith
length-two (x ∷ y ∷ xs) = omega arith

length-front : {X : Type 0} (xs : List X) → length (take 2 xs) ≤ length xs
length-front [] = omega arith
length-front (x ∷ []) = omega arith
length-front (x ∷ y ∷ xs) = omega arith

-- two more, or the last one
pub take_two : {X : Type 0} (xs : List X) (i : ℕ) → take (i + 2) xs ≡ take i xs ++ take 2 (drop i xs)
take_two [] i =
    take_all (i + 2) [] (omega arith)
    ∙ sym (ap₂ (λ front two. front ++ two) (take_all i [] (omega arith)) (ap (take 2) (drop_all i [] (omega arith)) ∙ take_all 2 [] (omega arith)))
take_two (x ∷ xs) zero = refl
take_two (x ∷ xs) (suc i) =
    let next : suc i + 2 ≡ suc (i + 2) = omega arith in
    ap (λ n. take n (x ∷ xs)) next ∙ ap (λ ys. x ∷ ys) (take_two xs i)

-- ---- the ranges that stay

module _ {K : Type 0} (keep : RangeSetRange K → Bool) where
  pub kept-range : (front before two : List K) (r : RangeSetRange K) → length front % 2 ≡ 0 → length before % 2 ≡ 0 → ranges_of two ≡ r ∷ [] → keep r ≡ true →
      ranges_of front ≡ filter keep (ranges_of before) → ranges_of (front ++ two) ≡ filter keep (ranges_of (before ++ two))
  kept-range front before two r even even_before is on e =
      ranges_of-append front two even ∙ ap₂ (λ xs ys. xs ++ ys) e (is ∙ sym (ap (λ b. cond b (r ∷ []) []) on))
      ∙ sym (ap (filter keep) (ranges_of-append before two even_before ∙ ap (λ rs. ranges_of before ++ rs) is) ∙ filter-append keep (ranges_of before) (r ∷ []))

  pub left-range : (front before two : List K) (r : RangeSetRange K) → length before % 2 ≡ 0 → ranges_of two ≡ r ∷ [] → keep r ≡ false →
      ranges_of front ≡ filter keep (ranges_of before) → ranges_of front ≡ filter keep (ranges_of (before ++ two))
  left-range front before two r even_before is off e =
      e ∙ sym (append-nil (filter keep (ranges_of before)))
      ∙ sym (ap (filter keep) (ranges_of-append before two even_before ∙ ap (λ rs. ranges_of before ++ rs) is) ∙ filter-append keep (ranges_of before) (r ∷ [])
      ∙ ap (λ b. filter keep (ranges_of before) ++ cond b (r ∷ []) []) off)

-- the first range of some boundaries, and the others
pub first-range : {K : Type 0} (items : List K) → 0 < length items →
    (r : RangeSetRange K) × ((rest : List (RangeSetRange K)) × (ranges_of items ≡ r ∷ rest) × (ranges_of (take 2 items) ≡ r ∷ []))
first-range [] some = absurd (omega (arith, some))
first-range (x ∷ []) some = (RangeFrom (record { start = x }), ([], refl, refl))
first-range (x ∷ y ∷ rest) some = (Range (record { start = x; end = y }), (ranges_of rest, refl, refl))

module _ {K : Type 0} (order : K → K → Ordering) where
  ascending-behind : (two ys : List K) → IsAscending order (two ++ ys) → IsAscending order ys
  ascending-behind [] ys up = up
  ascending-behind (x ∷ two) ys up = ascending-behind two ys (IsAscending-tail order x (two ++ ys) up)

  -- a list stays sorted where some in the midst are left out
  pub ascending-without : (xs two ys : List K) → IsAscending order (xs ++ (two ++ ys)) → IsAscending order (xs ++ ys)
  ascending-without [] two ys up = ascending-behind two ys up
  ascending-without (x ∷ xs) two ys up =
      let above = IsAscending-head order x (xs ++ (two ++ ys)) up in
      IsAscending-cons order x (xs ++ ys)
      (All-append (λ y. order x y ≡ Less) xs ys (All-front (λ y. order x y ≡ Less) xs (two ++ ys) above)
      (All-back (λ y. order x y ≡ Less) two ys (All-back (λ y. order x y ≡ Less) xs (two ++ ys) above)))
      (ascending-without xs two ys (IsAscending-tail order x (xs ++ (two ++ ys)) up))

-- ---- a step of the loop

module _ {X : Type 0} (xs : List X) (i j : ℕ) (two : i + 1 < length xs → j ≡ i + 2) (one : length xs ≤ i + 1 → j ≡ i + 1) where
  pub take-behind : take j xs ≡ take i xs ++ take 2 (drop i xs)
  take-behind =
      elim (cases_lt (i + 1) (length xs)) as (λ _. take j xs ≡ take i xs ++ take 2 (drop i xs)) [
        | inl more ↦ ap (λ n. take n xs) (two more) ∙ take_two xs i
        | inr none ↦ ap (λ n. take n xs) (one none) ∙ take_all (i + 1) xs none ∙ sym (take_all (i + 2) xs (omega (arith, none))) ∙ take_two xs i
      ]

  pub drop-behind : drop j xs ≡ drop (i + 2) xs
  drop-behind =
      elim (cases_lt (i + 1) (length xs)) as (λ _. drop j xs ≡ drop (i + 2) xs) [
        | inl more ↦ ap (λ n. drop n xs) (two more)
        | inr none ↦ ap (λ n. drop n xs) (one none) ∙ drop_all (i + 1) xs none ∙ sym (drop_all (i + 2) xs (omega (arith, none)))
      ]

module _ {K : Type 0} (order : K → K → Ordering) (keep : RangeSetRange K → Bool) (old items new : List K) (n m i j : ℕ)
    (len : length items ≡ length old) (more : i < length items) (same_len : length new ≡ length items)
    (two : i + 1 < length items → j ≡ i + 2) (one : length items ≤ i + 1 → j ≡ i + 1)
    (before : drop i items ≡ drop i old) (later : drop (i + 2) new ≡ drop (i + 2) items) where
  abbrev mid : List K
  mid = take 2 (drop i items)

  pub later-step : drop j new ≡ drop j old
  later-step =
      drop-behind new i j (λ l. two (omega (arith, l, same_len))) (λ l. one (omega (arith, l, same_len)))
      ∙ later ∙ drop-alike items old 2 i before
      ∙ sym (drop-behind old i j (λ l. two (omega (arith, l, len))) (λ l. one (omega (arith, l, len))))

  pub behind-last : j < length new → i + 1 < length items
  behind-last l =
      elim (cases_lt (i + 1) (length items)) as (λ _. i + 1 < length items) [
        | inl far ↦ far
        | inr none ↦ absurd (omega (arith, none, l, one none, same_len))
      ]

  behind-far : i < j
  behind-far =
      elim (cases_lt (i + 1) (length items)) as (λ _. i < j) [
        | inl far ↦ omega (arith, two far)
        | inr none ↦ omega (arith, one none)
      ]

  length-mid : length mid ≤ j - i
  length-mid =
      elim (cases_lt (i + 1) (length items)) as (λ _. length mid ≤ j - i) [
        | inl far ↦ omega (arith, two far, length-two (drop i items))
        | inr none ↦ omega (arith, one none, none, length-front (drop i items), length-drop i items)
      ]

  module _ (r : RangeSetRange K) (is : ranges_of mid ≡ r ∷ [])
      (kept : take m new ≡ take n items ++ cond (keep r) mid []) where
    pub ranges-step : length (take n items) % 2 ≡ 0 → i % 2 ≡ 0 → ranges_of (take n items) ≡ filter keep (ranges_of (take i old)) →
        ranges_of (take m new) ≡ filter keep (ranges_of (take j old))
    ranges-step even even_at e =
        let even_before : length (take i old) % 2 ≡ 0 = omega (arith, even_at, length-take-le i old (omega (arith, more, len))) in
        let all : take j old ≡ take i old ++ mid =
        take-behind old i j (λ l. two (omega (arith, l, len))) (λ l. one (omega (arith, l, len))) ∙ ap (λ xs. take i old ++ take 2 xs) (sym before) in
        ap ranges_of kept
        ∙ elim (cases_Bool (keep r)) as (λ _. ranges_of (take n items ++ cond (keep r) mid []) ≡ filter keep (ranges_of (take i old ++ mid))) [
          | inl on ↦
              ap (λ b. ranges_of (take n items ++ cond b mid [])) on
              ∙ kept-range keep (take n items) (take i old) mid r even even_before is on e
          | inr off ↦
              ap (λ b. ranges_of (take n items ++ cond b mid [])) off ∙ ap ranges_of (append-nil (take n items))
              ∙ left-range keep (take n items) (take i old) mid r even_before is off e
        ]
        ∙ ap (λ xs. filter keep (ranges_of xs)) (sym all)

    pub sorted-step : IsAscending order (take n items ++ drop i items) → IsAscending order (take m new ++ drop j new)
    sorted-step up =
        let rest : drop j new ≡ drop (i + 2) items =
        drop-behind new i j (λ l. two (omega (arith, l, same_len))) (λ l. one (omega (arith, l, same_len))) ∙ later in
        let parts : drop i items ≡ mid ++ drop (i + 2) items = sym (take-append-drop 2 (drop i items)) ∙ ap (λ xs. mid ++ xs) (drop-drop 2 i items) in
        let whole : IsAscending order (take n items ++ (mid ++ drop (i + 2) items)) = subst (λ xs. IsAscending order (take n items ++ xs)) parts up in
        subst (λ xs. IsAscending order xs) (ap₂ (λ xs ys. xs ++ ys) (sym kept) (sym rest))
        (elim (cases_Bool (keep r)) as (λ _. IsAscending order ((take n items ++ cond (keep r) mid []) ++ drop (i + 2) items)) [
          | inl on ↦
              subst (λ xs. IsAscending order xs) (sym (ap (λ b. (take n items ++ cond b mid []) ++ drop (i + 2) items) on ∙ append_assoc (take n items) mid (drop (i + 2) items))) whole
          | inr off ↦
              subst (λ xs. IsAscending order xs) (sym (ap (λ b. (take n items ++ cond b mid []) ++ drop (i + 2) items) off ∙ ap (λ xs. xs ++ drop (i + 2) items) (append-nil (take n items))))
              (ascending-without order (take n items) mid (drop (i + 2) items) whole)
        ])

    -- how many boundaries go down
    pub length-step : n ≤ i → m ≡ n + length (cond (keep r) mid []) → (m ≤ j) × (j < length new → m % 2 ≡ n % 2)
    length-step ordered e =
        let few : length mid ≤ j - i = length-mid in
        let far : i < j = behind-far in
        elim (cases_Bool (keep r)) as (λ _. (m ≤ j) × (j < length new → m % 2 ≡ n % 2)) [
          | inl on ↦
              let went : m ≡ n + length mid = e ∙ ap (λ b. n + length (cond b mid [])) on in (
                omega (arith, went, few, ordered, far),
                λ l.
                    let all : length mid ≡ 2 = length-take-le 2 (drop i items) (omega (arith, behind-last l, length-drop i items)) in
                    omega (arith, went, all),
              )
          | inr off ↦
              let stays : m ≡ n + 0 = e ∙ ap (λ b. n + length (cond b mid [])) off in
              (omega (arith, stays, ordered, far), λ _. omega (arith, stays))
        ]

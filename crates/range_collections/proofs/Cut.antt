-- A strictly sorted list cut at an element: which parts agree with it there, and are least.
use Rattle.std.proofs.Common.{◌≡◌, sym, ap, ◌∙◌, subst, ℕ, zero, suc, inl, inr, ◌<◌, ◌≤◌, ◌+◌, ◌-◌, ◌%◌, ◌==◌, true, false, not, cond, List, [], ◌∷◌, length, take, drop, get_or, arith, All, get_or-take, get_or-drop, length-drop}
use Rattle.std.specs.List.{HoldsAt, AllWithin}
use Rattle.std.proofs.lemmas.Bool.{cases_lt}
use Rattle.std.proofs.lemmas.Bool.Decides.{nat_tests}
use Rattle.std.proofs.lemmas.List.{take-append-drop, length-take-le, take_all}
use Rattle.std.proofs.lemmas.List.Elements.{All-cons}
use Rattle.std.specs.Cmp.{IsTotalOrder}
use Rattle.std.proofs.lemmas.Cmp.{alike_right, tied_itself, tied_back}
use Rattle.std.specs.declared.cmp.Ordering.{Ordering}
use Rattle.std.specs.declared.cmp.Ordering.TheVariants.{Less, Equal, Greater}
use Rattle.std.specs.Ordering.{is_le, is_lt, ordering_reverse}
use Rattle.range_merge.specs.Boundaries.{IsAscending, count_up_to, count_below, member, is_odd}
use Rattle.range_merge.specs.Connective.{differ}
use Rattle.range_merge.proofs.Members.{by_Ordering, count_below-nil, count_below-cons}
use Rattle.range_merge.proofs.Orders.{Greater-from_less, Less-from_greater}
use Rattle.range_merge.proofs.Pairs.{AllPairs-drop}
use Rattle.range_merge.proofs.Parity.{is_odd-add}
use Rattle.range_collections.specs.Split.{right_place, split_left, split_right, AgreesWhere, IsLeastBelow, IsLeastFrom}
use Rattle.range_collections.proofs.Ascending.{IsAscending-head, IsAscending-tail, IsAscending-cons}
use Rattle.range_collections.proofs.CountUpTo.{count_up_to-cons_in, count_up_to-found, count_up_to-missing}
use Rattle.range_collections.proofs.Shortest.{is_le-cases, count_up_to-append, count_up_to-all, count_up_to-none, Less-then_le, le-trans, le-from_greater, length-least}

even_up : (i : ℕ) → (i + i % 2) % 2 ≡ 0
even_up i = omega arith

even_down : (i : ℕ) → (i - i % 2) % 2 ≡ 0
even_down i = omega arith

module _ {K : Type 0} (order : K → K → Ordering) where
  -- the items before place i are below x, and the others are not
  pub count_below-split : (x : K) (xs : List K) (i : ℕ) → i ≤ length xs →
      AllWithin (λ y. order y x ≡ Less) xs 0 i → AllWithin (λ y. is_lt (order y x) ≡ false) xs i (length xs) →
      count_below order xs x ≡ i
  count_below-split x [] i within before from = count_below-nil order x ∙ omega arith
  count_below-split x (y ∷ ys) zero within before from =
      rw (count_below-cons order y ys x, from 0 y (omega arith) (omega arith))
      (count_below-split x ys zero (omega arith) (λ k d low high. absurd (omega arith)) (λ k d low high. from (suc k) d (omega arith) (omega arith)))
  count_below-split x (y ∷ ys) (suc i) within before from =
      rw (count_below-cons order y ys x, before 0 y (omega arith) (omega arith))
      (ap suc (count_below-split x ys i (omega arith) (λ k d low high. before (suc k) d (omega arith) (omega arith)) (λ k d low high. from (suc k) d (omega arith) (omega arith))))

  plain_found : (i : ℕ) → cond (is_odd i) (cond (not (i + 1 == i)) (i + 1) (i - 1)) i ≡ i + i % 2
  plain_found i = grind (arith, nat_tests)

  plain_missing : (i : ℕ) → cond (is_odd i) (cond (not (i == i)) (i + 1) (i - 1)) i ≡ i - i % 2
  plain_missing i = grind (arith, nat_tests)

  pub right_place-found : (x : K) (xs : List K) (i : ℕ) → count_below order xs x ≡ i → count_up_to order xs x ≡ i + 1 → right_place order xs x ≡ i + i % 2
  right_place-found x xs i s b = rw (s, b) (plain_found i)

  pub right_place-missing : (x : K) (xs : List K) (i : ℕ) → count_below order xs x ≡ i → count_up_to order xs x ≡ i → right_place order xs x ≡ i - i % 2
  right_place-missing x xs i s b = rw (s, b) (plain_missing i)

  -- what holds of the first n places holds of the items of the front
  pub All-take_within : (P : K → Type 0) (n : ℕ) (xs : List K) → n ≤ length xs → AllWithin P xs 0 n → All P (take n xs)
  All-take_within P n xs within h k d less =
      let small : k < n = omega (arith, less, length-take-le n xs within) in
      rw (get_or-take n xs k d small) (h k d (omega arith) small)

  -- what holds from place n on holds of the items of the end
  pub All-drop_within : (P : K → Type 0) (n : ℕ) (xs : List K) → n ≤ length xs → AllWithin P xs n (length xs) → All P (drop n xs)
  All-drop_within P n xs within h k d less =
      rw (get_or-drop n xs k d) (h (n + k) d (omega arith) (omega (arith, less, length-drop n xs)))

  pub IsAscending-take : (n : ℕ) (xs : List K) → IsAscending order xs → IsAscending order (take n xs)
  IsAscending-take n xs up i j d less within =
      elim (cases_lt n (length xs)) as (λ _. order (get_or (take n xs) i d) (get_or (take n xs) j d) ≡ Less) [
        | inl short ↦
            let small : j < n = omega (arith, within, length-take-le n xs (omega arith)) in
            rw (get_or-take n xs i d (omega arith), get_or-take n xs j d small) (up i j d less (omega arith))
        | inr long ↦ rw (take_all n xs long) (up i j d less (subst (λ (ys : List K). j < length ys) (take_all n xs long) within))
      ]

  pub count_up_to-front : (n : ℕ) (xs : List K) (x : K) → count_up_to order xs x ≡ count_up_to order (take n xs) x + count_up_to order (drop n xs) x
  count_up_to-front n xs x = ap (λ ys. count_up_to order ys x) (sym (take-append-drop n xs)) ∙ count_up_to-append order (take n xs) (drop n xs) x

module _ {K : Type 0} {order : K → K → Ordering} (o : IsTotalOrder order) where
  -- the items before place i are below the cut, and the others at or above it: the first are the
  -- least list below the cut
  pub IsLeastBelow-take : (cut : K) (xs : List K) (i : ℕ) → IsAscending order xs → i ≤ length xs →
      AllWithin (λ y. order y cut ≡ Less) xs 0 i → AllWithin (λ y. is_le (order cut y) ≡ true) xs i (length xs) →
      IsLeastBelow order cut (take i xs) xs
  IsLeastBelow-take cut xs i up within before from = record {
    sorted = IsAscending-take order i xs up;
    agrees = agrees;
    least = λ other _ same.
        length-least o (take i xs) (IsAscending-take order i xs up) other
        (λ k d less.
        let low : order (get_or (take i xs) k d) cut ≡ Less = All-take_within order (λ y. order y cut ≡ Less) i xs within before k d less in
        same (get_or (take i xs) k d) low ∙ sym (agrees (get_or (take i xs) k d) low));
  }
    where
      agrees : AgreesWhere order (λ x. order x cut ≡ Less) (take i xs) xs
      agrees x low =
          let none : count_up_to order (drop i xs) x ≡ 0 =
          count_up_to-none order x (drop i xs)
          (All-drop_within order (λ y. order y x ≡ Greater) i xs within
          (λ k d more less. Greater-from_less o x (get_or xs k d) (Less-then_le o x cut (get_or xs k d) low (from k d more less)))) in
          sym (ap is_odd (count_up_to-front order i xs x ∙ omega (arith, none)))

  -- a list that ascends from the cut on, but for its first item, is no longer than one with its
  -- members there
  length-least_from : (cut : K) (ys : List K) → IsAscending order ys → AllWithin (λ y. order y cut ≡ Greater) ys 1 (length ys) →
      (other : List K) → ((x : K) → is_le (order cut x) ≡ true → member order other x ≡ member order ys x) → length ys ≤ length other
  length-least_from cut [] up high other same = omega arith
  length-least_from cut (p ∷ ps) up high other same =
      let above : All (λ y. order cut y ≡ Less) ps = λ k d less. Less-from_greater o (get_or ps k d) cut (high (suc k) d (omega arith) (omega arith)) in
      is_le-cases (order p cut)
      (λ t.
      length-least o (cut ∷ ps) (IsAscending-cons order cut ps above (IsAscending-tail order p ps up)) other
      (All-cons (λ x. member order other x ≡ member order (cut ∷ ps) x) cut ps
      (same cut (ap is_le (tied_itself o cut)) ∙ swapped t cut (ap is_le (tied_itself o cut)))
      (λ k d less.
      let far : is_le (order cut (get_or ps k d)) ≡ true = ap is_le (above k d less) in
      same (get_or ps k d) far ∙ swapped t (get_or ps k d) far)))
      (λ g.
      length-least o (p ∷ ps) up other
      (All-cons (λ x. member order other x ≡ member order (p ∷ ps) x) p ps
      (same p (le-from_greater o p cut g))
      (λ k d less. same (get_or ps k d) (ap is_le (above k d less)))))
    where
      -- from the cut on it makes no difference whether the first boundary is at the cut or below it
      swapped : is_le (order p cut) ≡ true → (x : K) → is_le (order cut x) ≡ true → member order (p ∷ ps) x ≡ member order (cut ∷ ps) x
      swapped t x far =
          ap is_odd (count_up_to-cons_in order p ps x (le-trans o p cut x t far) ∙ sym (count_up_to-cons_in order cut ps x far))

  -- an even number j of items at or below the cut, and above it all but the next: the end from j on
  -- is the least list from the cut on
  pub IsLeastFrom-drop : (cut : K) (xs : List K) (j : ℕ) → IsAscending order xs → j ≤ length xs → is_odd j ≡ false →
      AllWithin (λ y. is_le (order y cut) ≡ true) xs 0 j → AllWithin (λ y. order y cut ≡ Greater) xs (j + 1) (length xs) →
      IsLeastFrom order cut (drop j xs) xs
  IsLeastFrom-drop cut xs j up within even before from = record {
    sorted = AllPairs-drop (λ x y. order x y ≡ Less) j xs up;
    agrees = agrees;
    least = λ other _ same.
        length-least_from cut (drop j xs) (AllPairs-drop (λ x y. order x y ≡ Less) j xs up)
        (λ k d low high. rw (get_or-drop j xs k d) (from (j + k) d (omega arith) (omega (arith, high, length-drop j xs))))
        other (λ x far. same x far ∙ sym (agrees x far));
  }
    where
      agrees : AgreesWhere order (λ x. is_le (order cut x) ≡ true) (drop j xs) xs
      agrees x far =
          let all : count_up_to order (take j xs) x ≡ j =
          count_up_to-all order x (take j xs)
          (All-take_within order (λ y. is_le (order y x) ≡ true) j xs within
          (λ k d low high. le-trans o (get_or xs k d) cut x (before k d low high) far))
          ∙ length-take-le j xs within in
          sym (ap is_odd (count_up_to-front order j xs x ∙ ap (λ n. n + count_up_to order (drop j xs) x) all)
          ∙ is_odd-add j (count_up_to order (drop j xs) x) ∙ ap (λ b. differ b (is_odd (count_up_to order (drop j xs) x))) even)

  -- ---- what a search found
  module _ (cut : K) (xs : List K) (i : ℕ) (up : IsAscending order xs) (within : i < length xs) (here : HoldsAt (λ y. order y cut ≡ Equal) xs i) where
    pub before_found : AllWithin (λ y. order y cut ≡ Less) xs 0 i
    before_found k d low high = sym (alike_right o (get_or xs i d) cut (get_or xs k d) (here d)) ∙ up k i d high within

    pub after_found : AllWithin (λ y. order y cut ≡ Greater) xs (i + 1) (length xs)
    after_found k d low high =
        o.antisymm (get_or xs k d) cut ∙ ap ordering_reverse (sym (o.congr (get_or xs i d) cut (get_or xs k d) (here d)) ∙ up i k d (omega arith) high)

    pub le_found : AllWithin (λ y. is_le (order y cut) ≡ true) xs 0 (i + 1)
    le_found k d low high =
        elim (cases_lt k i) as (λ _. is_le (order (get_or xs k d) cut) ≡ true) [
          | inl less ↦ ap is_le (before_found k d low less)
          | inr more ↦ let e : k ≡ i = omega arith in subst (λ n. is_le (order (get_or xs n d) cut) ≡ true) (sym e) (ap is_le (here d))
        ]

    -- what holds of what is equal to the cut and of what is above it holds from the found place on
    pub from_found : (P : K → Type 0) → ((y : K) → order y cut ≡ Equal → P y) → ((y : K) → order y cut ≡ Greater → P y) → AllWithin P xs i (length xs)
    from_found P same more k d low high =
        elim (cases_lt i k) as (λ _. P (get_or xs k d)) [
          | inl less ↦ more (get_or xs k d) (after_found k d (omega arith) high)
          | inr done ↦ let e : k ≡ i = omega arith in subst (λ n. P (get_or xs n d)) (sym e) (same (get_or xs i d) (here d))
        ]

    pub count_below-found : count_below order xs cut ≡ i
    count_below-found =
        count_below-split order cut xs i (omega arith) before_found
        (from_found (λ y. is_lt (order y cut) ≡ false) (λ y e. ap is_lt e) (λ y e. ap is_lt e))

    pub split_left-found : split_left order xs cut ≡ take i xs
    split_left-found = ap (λ n. take n xs) count_below-found

    pub split_right-found : split_right order xs cut ≡ drop (i + i % 2) xs
    split_right-found =
        ap (λ n. drop n xs) (right_place-found order cut xs i count_below-found (count_up_to-found order o cut xs i up within here))

    pub IsLeastBelow-found : IsLeastBelow order cut (take i xs) xs
    IsLeastBelow-found =
        IsLeastBelow-take cut xs i up (omega arith) before_found
        (from_found (λ y. is_le (order cut y) ≡ true) (λ y e. ap is_le (tied_back o y cut e)) (λ y e. le-from_greater o y cut e))

    pub IsLeastFrom-found : IsLeastFrom order cut (drop (i + i % 2) xs) xs
    IsLeastFrom-found =
        IsLeastFrom-drop cut xs (i + i % 2) up (omega arith) (ap (λ m. m == 1) (even_up i))
        (λ k d low high. le_found k d low (omega arith))
        (λ k d low high. after_found k d (omega arith) high)

  -- ---- what a search did not find
  module _ (cut : K) (xs : List K) (i : ℕ) (up : IsAscending order xs) (within : i ≤ length xs)
      (before : AllWithin (λ y. order y cut ≡ Less) xs 0 i) (from : AllWithin (λ y. order y cut ≡ Greater) xs i (length xs)) where
    pub count_below-missing : count_below order xs cut ≡ i
    count_below-missing =
        count_below-split order cut xs i within before (λ k d low high. ap is_lt (from k d low high))

    pub split_left-missing : split_left order xs cut ≡ take i xs
    split_left-missing = ap (λ n. take n xs) count_below-missing

    pub split_right-missing : split_right order xs cut ≡ drop (i - i % 2) xs
    split_right-missing =
        ap (λ n. drop n xs) (right_place-missing order cut xs i count_below-missing (count_up_to-missing order cut xs i within before from))

    pub IsLeastBelow-missing : IsLeastBelow order cut (take i xs) xs
    IsLeastBelow-missing =
        IsLeastBelow-take cut xs i up within before (λ k d low high. le-from_greater o (get_or xs k d) cut (from k d low high))

    pub IsLeastFrom-missing : IsLeastFrom order cut (drop (i - i % 2) xs) xs
    IsLeastFrom-missing =
        IsLeastFrom-drop cut xs (i - i % 2) up (omega arith) (ap (λ m. m == 1) (even_down i))
        (λ k d low high. ap is_le (before k d low (omega arith)))
        (λ k d low high. from k d (omega arith) high)

  -- ---- any cut of a list that ascends
  within-cons : (P : K → Type 0) (y : K) (ys : List K) (i : ℕ) → P y → AllWithin P ys 0 i → AllWithin P (y ∷ ys) 0 (suc i)
  within-cons P y ys i p h zero d low high = p
  within-cons P y ys i p h (suc k) d low high = h k d (omega arith) (omega arith)

  within-after : (P : K → Type 0) (y : K) (ys : List K) (i n : ℕ) → AllWithin P ys i n → AllWithin P (y ∷ ys) (suc i) (suc n)
  within-after P y ys i n h zero d low high = absurd (omega arith)
  within-after P y ys i n h (suc k) d low high = h k d (omega arith) (omega arith)

  -- it stands at a place, or else before one
  by_place : {G : Type 0} (cut : K) (xs : List K) → IsAscending order xs →
      ((i : ℕ) → i < length xs → HoldsAt (λ y. order y cut ≡ Equal) xs i → G) →
      ((i : ℕ) → i ≤ length xs → AllWithin (λ y. order y cut ≡ Less) xs 0 i → AllWithin (λ y. order y cut ≡ Greater) xs i (length xs) → G) → G
  by_place cut [] up found missing = missing 0 (omega arith) (λ k d low high. absurd (omega arith)) (λ k d low high. absurd (omega arith))
  by_place cut (y ∷ ys) up found missing =
      by_Ordering (order y cut)
      (λ l.
      by_place cut ys (IsAscending-tail order y ys up)
      (λ i within here. found (suc i) (omega arith) here)
      (λ i within before from.
      missing (suc i) (omega arith) (within-cons (λ z. order z cut ≡ Less) y ys i l before)
      (within-after (λ z. order z cut ≡ Greater) y ys i (length ys) from)))
      (λ e. found 0 (omega arith) (λ d. e))
      (λ g.
      missing 0 (omega arith) (λ k d low high. absurd (omega arith))
      (within-cons (λ z. order z cut ≡ Greater) y ys (length ys) g
      (λ k d low high.
      Greater-from_less o cut (get_or ys k d)
      (o.trans cut y (get_or ys k d) (Less-from_greater o y cut g) (IsAscending-head order y ys up k d high)))))

  pub IsLeastBelow-split_left : (cut : K) (xs : List K) → IsAscending order xs → IsLeastBelow order cut (split_left order xs cut) xs
  IsLeastBelow-split_left cut xs up =
      let P = λ (part : List K). IsLeastBelow order cut part xs in
      by_place cut xs up
      (λ i within here. subst P (sym (split_left-found cut xs i up within here)) (IsLeastBelow-found cut xs i up within here))
      (λ i within before from.
      subst P (sym (split_left-missing cut xs i up within before from)) (IsLeastBelow-missing cut xs i up within before from))

  pub IsLeastFrom-split_right : (cut : K) (xs : List K) → IsAscending order xs → IsLeastFrom order cut (split_right order xs cut) xs
  IsLeastFrom-split_right cut xs up =
      let P = λ (part : List K). IsLeastFrom order cut part xs in
      by_place cut xs up
      (λ i within here. subst P (sym (split_right-found cut xs i up within here)) (IsLeastFrom-found cut xs i up within here))
      (λ i within before from.
      subst P (sym (split_right-missing cut xs i up within before from)) (IsLeastFrom-missing cut xs i up within before from))

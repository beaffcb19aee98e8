-- Several ranges set one by one in a list of boundaries.
use Rattle.std.proofs.Common.{zero, suc, ◌*◌, ◌≡◌, ◌≢◌, refl, sym, ap, ap₂, ◌∙◌, subst, ⊎_elim, ℕ, inl, inr, ◌⊎◌, ◌<◌, ◌≤◌, ◌+◌, ◌-◌, ◌%◌, ◌==◌, Some, Bool, true, false, not, ◌&&◌, List, [], ◌∷◌, ◌++◌, length, take, get_or, arith, Contains, true≢false, append_assoc, Result, Ok, Err, OnOk, OnErr, IsOk}
use Rattle.std.specs.List.{HoldsAt, AllWithin}
use Rattle.std.specs.Cmp.{IsTotalOrder}
use Rattle.std.specs.Ordering.{is_le, is_lt}
use Rattle.std.specs.declared.cmp.Ordering.{Ordering}
use Rattle.std.specs.declared.cmp.Ordering.TheVariants.{Less, Equal, Greater}
use Rattle.std.proofs.lemmas.Bool.{cases_lt}
use Rattle.std.proofs.lemmas.Cmp.{tied_back}
use Rattle.std.proofs.lemmas.List.{length-take-le, get_or-take, take_more}
use Rattle.std.proofs.lemmas.List.Elements.{All-get_or, All-contains, Contains-get_or}
use Rattle.range_merge.specs.Boundaries.{IsAscending, count_up_to, is_odd, member}
use Rattle.range_merge.specs.Connective.{Means, differ}
use Rattle.range_merge.proofs.Orders.{Greater-from_less, Less-from_equal, Less-from_greater, Less-trans, Equal-self}
use Rattle.range_merge.proofs.Parity.{is_odd-add}
use Rattle.range_collections.specs.Splicing.{IsCut, IsSet, IsSettled, range_table, spliced}
use Rattle.range_collections.proofs.CountUpTo.{count_up_to-split}
use Rattle.range_collections.proofs.Insertion.{IsCut-put}
use Rattle.range_collections.proofs.Points.{member-odd}
use Rattle.range_collections.proofs.Shortest.{count_up_to-all, count_up_to-append, le-from_greater, le-trans, Less-from_le, Less-then_le}
use Rattle.range_collections.proofs.Values.{member-two, not-not}
use Rattle.range_collections.proofs.Settled.{IsSet-spliced, other_than_itself}
use Rattle.range_chunks.specs.Several.{AreKeptAbove, IsGap, AreSettled}

is_odd-double : (n : ℕ) → is_odd (n + n) ≡ false
is_odd-double n =
    let e : (n + n) % 2 ≡ 0 = omega arith in
    ap (λ m. m == 1) e

-- what is so where a call is done, if it is done
pub what_is_done : {E : Type 0} (r : Result (Unit {0}) E) (P : Type 0) → OnOk r P → IsOk r → P
what_is_done (Ok x) P h done = h
what_is_done (Err e) P h done = absurd (true≢false (sym done))

pub get_or_same : {K : Type 0} (xs : List K) (i : ℕ) (d c : K) → i < length xs → get_or xs i d ≡ get_or xs i c
get_or_same [] i d c within = absurd (omega (arith, within))
get_or_same (x ∷ xs) zero d c within = refl
get_or_same (x ∷ xs) (suc i) d c within = get_or_same xs i d c (omega (arith, within))

module _ {K : Type 0} {order : K → K → Ordering} (o : IsTotalOrder order) where
  module _ (inside : Bool) where
    -- ---- a gap is cut at one place by both ends
    module _ (a : List K) (s e : K) (n : ℕ) (up : IsAscending order a) (less : order s e ≡ Less) (gap : IsGap order inside a s e n) where
      odd_other : is_odd n ≡ inside → ⊥
      odd_other h = other_than_itself inside (sym gap.parity ∙ h)

      pub cut_by_start : IsCut order inside a s n (Some s)
      cut_by_start =
          IsCut-put o inside a s n up gap.within gap.below
          (λ k d low high. Greater-from_less o s (get_or a k d) (Less-trans o s e (get_or a k d) less (gap.above k d low high)))
          odd_other

      pub cut_by_end : IsCut order inside a e n (Some e)
      cut_by_end =
          IsCut-put o inside a e n up gap.within
          (λ k d low high. Less-trans o (get_or a k d) s e (gap.below k d low high) less)
          (λ k d low high. Greater-from_less o e (get_or a k d) (gap.above k d low high))
          odd_other

    -- ---- what is settled stays so
    module _ (a new : List K) (s e : K) (less : order s e ≡ Less) (it : IsSet order inside a s e new) where
      in_range : (x : K) → is_le (order s x) ≡ true → order x e ≡ Less → member order new x ≡ inside
      in_range x high low =
          it.means.members x
          ∙ ap (range_table inside (member order a x)) (member-two o s e x less ∙ ap₂ (λ b c. b && is_lt c) high low)

      pub settled_now : IsSettled order inside new s e
      settled_now = inr (in_range s (ap is_le (Equal-self o s)) less)

      stays_inside : (b : Bool) (m : Bool) → m ≡ inside → range_table inside m b ≡ inside
      stays_inside true m is = refl
      stays_inside false m is = is

      pub settled_still : (x y : K) → (order y s ≡ Less) ⊎ (order e x ≡ Less) → IsSettled order inside a x y → IsSettled order inside new x y
      settled_still x y apart (inl (z, has, high, low)) =
          let outside : (order z s ≡ Less) ⊎ (order e z ≡ Less) =
          ⊎_elim (λ before. inl (Less-from_le o z y s low before)) (λ after. inr (Less-then_le o e x z after high)) apart in
          inl (z, All-contains (λ v. (order v s ≡ Less) ⊎ (order e v ≡ Less) → Contains new v) a z it.kept has outside, high, low)
      settled_still x y apart (inr m) =
          inr (it.means.members x ∙ stays_inside (member order (s ∷ e ∷ []) x) (member order a x) m)

    -- ---- the ranges of another list, one after the other
    module _ (that : List K) (that_up : IsAscending order that) where
      pub less_at : (n : ℕ) (d : K) → 2 * n + 1 < length that → order (get_or that (2 * n) d) (get_or that (2 * n + 1) d) ≡ Less
      less_at n d within = that_up (2 * n) (2 * n + 1) d (omega arith) within

      apart_at : (n i : ℕ) (d : K) → n < i → 2 * i < length that → order (get_or that (2 * n + 1) d) (get_or that (2 * i) d) ≡ Less
      apart_at n i d before within = that_up (2 * n + 1) (2 * i) d (omega (arith, before)) within

      -- those that were settled still are once one is set
      module _ (a new : List K) (i : ℕ) (within : 2 * i + 1 < length that) (it : (d : K) → IsSet order inside a (get_or that (2 * i) d) (get_or that (2 * i + 1) d) new) where
        settled_after : (n : ℕ) (d : K) → 2 * n + 1 < length that → IsSettled order inside a (get_or that (2 * n) d) (get_or that (2 * n + 1) d) →
            IsSettled order inside new (get_or that (2 * n) d) (get_or that (2 * n + 1) d)
        settled_after n d fits was =
            elim (cases_lt n i) as (λ _. IsSettled order inside new (get_or that (2 * n) d) (get_or that (2 * n + 1) d)) [
              | inl before ↦
                  settled_still a new (get_or that (2 * i) d) (get_or that (2 * i + 1) d) (less_at i d within) (it d) (get_or that (2 * n) d) (get_or that (2 * n + 1) d)
                  (inl (apart_at n i d before (omega (arith, within)))) was
              | inr not_before ↦
                  elim (cases_lt i n) as (λ _. IsSettled order inside new (get_or that (2 * n) d) (get_or that (2 * n + 1) d)) [
                    | inl after ↦
                        settled_still a new (get_or that (2 * i) d) (get_or that (2 * i + 1) d) (less_at i d within) (it d) (get_or that (2 * n) d) (get_or that (2 * n + 1) d)
                        (inr (apart_at i n d after (omega (arith, fits)))) was
                    | inr not_after ↦
                        let same : i ≡ n = omega (arith, not_before, not_after) in
                        subst (λ (k : ℕ). IsSettled order inside new (get_or that (2 * k) d) (get_or that (2 * k + 1) d)) same
                        (settled_now a new (get_or that (2 * i) d) (get_or that (2 * i + 1) d) (less_at i d within) (it d))
                  ]
            ]

        pub AreSettled-set : (high : ℕ) → 2 * high ≤ length that → AreSettled order inside a that high → AreSettled order inside new that high
        AreSettled-set high fits all n d below = settled_after n d (omega (arith, fits, below)) (all n d below)

        pub kept_more : (old : List K) → AreKeptAbove order that old a → AreKeptAbove order that old new
        kept_more old so_far y has below =
            All-contains (λ v. (order v (get_or that (2 * i) y) ≡ Less) ⊎ (order (get_or that (2 * i + 1) y) v ≡ Less) → Contains new v) a y (it y).kept (so_far y has below)
            (inr (All-get_or (λ z. order z y ≡ Less) that (2 * i + 1) y within below))

        module _ (x : K) where
          abbrev s : K
          s = get_or that (2 * i) x

          abbrev e : K
          e = get_or that (2 * i + 1) x

          in_pair : member order (s ∷ e ∷ []) x ≡ true → (is_le (order s x) ≡ true) × (order x e ≡ Less)
          in_pair h =
              let both : (is_le (order s x) && is_lt (order x e)) ≡ true = sym (member-two o s e x (less_at i x within)) ∙ h in
              of_both (is_le (order s x)) (order x e) refl refl both
            where
              of_both : (b : Bool) (r : Ordering) → is_le (order s x) ≡ b → order x e ≡ r → (b && is_lt r) ≡ true → (is_le (order s x) ≡ true) × (order x e ≡ Less)
              of_both true Less p q h = (p, q)
              of_both true Equal p q h = absurd (true≢false (sym h))
              of_both true Greater p q h = absurd (true≢false (sym h))
              of_both false r p q h = absurd (true≢false (sym h))

          low_before : (k : ℕ) (d : K) → k < 2 * i → is_le (order s x) ≡ true → is_le (order (get_or that k d) x) ≡ true
          low_before k d before h =
              let same : get_or that (2 * i) d ≡ s = get_or_same that (2 * i) d x (omega (arith, within)) in
              let below : order (get_or that k d) s ≡ Less = subst (λ z. order (get_or that k d) z ≡ Less) same (that_up k (2 * i) d before (omega (arith, within))) in
              le-trans o (get_or that k d) s x (ap is_le below) h

          pub in_that : member order (s ∷ e ∷ []) x ≡ true → member order that x ≡ true
          in_that h =
              member-odd o x that (2 * i + 1) (omega (arith, within))
              (λ k d low high.
              elim (cases_lt k (2 * i)) as (λ _. is_le (order (get_or that k d) x) ≡ true) [
                | inl before ↦ low_before k d before (in_pair h).0
                | inr last ↦
                    let same : 2 * i ≡ k = omega (arith, last, high) in
                    subst (λ z. is_le (order z x) ≡ true) (sym (get_or_same that (2 * i) d x (omega (arith, within))) ∙ ap (λ j. get_or that j d) same) (in_pair h).0
              ])
              (λ k d low high.
              let same : get_or that (2 * i + 1) d ≡ e = get_or_same that (2 * i + 1) d x within in
              elim (cases_lt (2 * i + 1) k) as (λ _. order (get_or that k d) x ≡ Greater) [
                | inl behind ↦
                    let above : order e (get_or that k d) ≡ Less = subst (λ z. order z (get_or that k d) ≡ Less) same (that_up (2 * i + 1) k d behind high) in
                    Greater-from_less o x (get_or that k d) (Less-trans o x e (get_or that k d) (in_pair h).1 above)
                | inr first ↦
                    let here : 2 * i + 1 ≡ k = omega (arith, low, first) in
                    subst (λ z. order z x ≡ Greater) (sym same ∙ ap (λ j. get_or that j d) here) (Greater-from_less o x e (in_pair h).1)
              ])
              (λ even. omega (arith, even))

          pub outside_still : member order that x ≡ false → member order new x ≡ member order a x
          outside_still none =
              (it x).means.members x ∙ by_pair (member order (s ∷ e ∷ []) x) refl
            where
              by_pair : (b : Bool) → member order (s ∷ e ∷ []) x ≡ b → range_table inside (member order a x) (member order (s ∷ e ∷ []) x) ≡ member order a x
              by_pair true h = absurd (true≢false (sym (in_that h) ∙ none))
              by_pair false h = ap (range_table inside (member order a x)) h

          -- none of the ranges before holds it
          none_before : member order (s ∷ e ∷ []) x ≡ true → member order (take (2 * i) that) x ≡ false
          none_before h =
              let long : length (take (2 * i) that) ≡ 2 * i = length-take-le (2 * i) that (omega (arith, within)) in
              let even : (2 * i) % 2 ≡ 0 = omega arith in
              ap is_odd
              (count_up_to-all order x (take (2 * i) that)
              (λ k d below.
              let small : k < 2 * i = omega (arith, below, long) in
              subst (λ z. is_le (order z x) ≡ true) (sym (get_or-take (2 * i) that k d small)) (low_before k d small (in_pair h).0))
              ∙ long)
              ∙ ap (λ m. m == 1) even

          set_twice : (was f p : Bool) → (p ≡ true → f ≡ false) → range_table inside (range_table inside was f) p ≡ range_table inside was (differ f p)
          set_twice was true true h = absurd (true≢false (h refl))
          set_twice was true false h = refl
          set_twice was false true h = refl
          set_twice was false false h = refl

          two_more : take (2 * (i + 1)) that ≡ take (2 * i) that ++ (s ∷ e ∷ [])
          two_more =
              let two : 2 * (i + 1) ≡ 2 * i + 1 + 1 = omega arith in
              ap (λ k. take k that) two
              ∙ take_more that (2 * i + 1) x within
              ∙ ap (λ l. l ++ e ∷ []) (take_more that (2 * i) x (omega (arith, within)))
              ∙ append_assoc (take (2 * i) that) (s ∷ []) (e ∷ [])

          pub members_more : (old : List K) → member order a x ≡ range_table inside (member order old x) (member order (take (2 * i) that) x) →
              member order new x ≡ range_table inside (member order old x) (member order (take (2 * (i + 1)) that) x)
          members_more old so_far =
              let front = member order (take (2 * i) that) x in
              let pair = member order (s ∷ e ∷ []) x in
              let both : member order (take (2 * (i + 1)) that) x ≡ differ front pair =
              ap (λ l. member order l x) two_more
              ∙ ap is_odd (count_up_to-append order (take (2 * i) that) (s ∷ e ∷ []) x)
              ∙ is_odd-add (count_up_to order (take (2 * i) that) x) (count_up_to order (s ∷ e ∷ []) x) in
              (it x).means.members x
              ∙ ap (λ m. range_table inside m pair) so_far
              ∙ set_twice (member order old x) front pair none_before
              ∙ ap (range_table inside (member order old x)) (sym both)

    -- ---- all of them
    pub Means-all : (that old mid new : List K) → ((x : K) → member order that x ≡ false → member order mid x ≡ member order old x) →
        Means order (range_table inside) new mid that → Means order (range_table inside) new old that
    Means-all that old mid new outside it = record {
      sorted = it.sorted;
      members = λ x. it.members x ∙ by_that x (member order that x) refl;
    }
      where
        by_that : (x : K) (b : Bool) → member order that x ≡ b → range_table inside (member order mid x) (member order that x) ≡ range_table inside (member order old x) (member order that x)
        by_that x true h = ap (range_table inside (member order mid x)) h ∙ sym (ap (range_table inside (member order old x)) h)
        by_that x false h = ap (range_table inside (member order mid x)) h ∙ outside x h ∙ sym (ap (range_table inside (member order old x)) h)

  -- ---- where a range goes
  module _ (inside : Bool) (a : List K) (s e : K) (n : ℕ) (less : order s e ≡ Less) where
    pub settled_at : n < length a → HoldsAt (λ y. order y s ≡ Equal) a n → IsSettled order inside a s e
    settled_at within here =
        let y : K = get_or a n s in
        inl (y, Contains-get_or a n s within, ap is_le (tied_back o y s (here s)), ap is_le (Less-from_equal o y s e (here s) less))

    module _ (within : n ≤ length a) (before : AllWithin (λ y. order y s ≡ Less) a 0 n) (from : AllWithin (λ y. order y s ≡ Greater) a n (length a)) where
      pub settled_already : is_odd n ≡ inside → IsSettled order inside a s e
      settled_already odd = inr (ap is_odd (count_up_to-split order s a n within (λ k d low high. ap is_le (before k d low high)) from) ∙ odd)

      pub settled_by_next : (y : K) → n < length a → HoldsAt (λ z. y ≡ z) a n → is_le (order y e) ≡ true → IsSettled order inside a s e
      settled_by_next y more here low =
          inl (y, (n, more, sym (here y)), le-from_greater o y s (subst (λ z. order z s ≡ Greater) (sym (here y)) (from n y (omega arith) more)), low)

      pub gap_before_next : (up : IsAscending order a) (y : K) → HoldsAt (λ z. y ≡ z) a n → order y e ≡ Greater → not (is_odd n) ≡ inside → IsGap order inside a s e n
      gap_before_next up y here high even = record {
        within = within;
        below = before;
        above = λ k d low more.
            let next : order e (get_or a n d) ≡ Less = subst (λ z. order e z ≡ Less) (here d) (Less-from_greater o y e high) in
            elim (cases_lt n k) as (λ _. order e (get_or a k d) ≡ Less) [
              | inl behind ↦ Less-trans o e (get_or a n d) (get_or a k d) next (up n k d behind more)
              | inr first ↦
                  let same : n ≡ k = omega (arith, low, first) in
                  subst (λ (j : ℕ). order e (get_or a j d) ≡ Less) same next
            ];
        parity = sym (not-not (is_odd n)) ∙ ap not even;
      }

      pub gap_at_end : length a ≤ n → not (is_odd n) ≡ inside → IsGap order inside a s e n
      gap_at_end end even = record {
        within = within;
        below = before;
        above = λ k d low more. absurd (omega (arith, low, more, end));
        parity = sym (not-not (is_odd n)) ∙ ap not even;
      }

  -- the ends of a range read from a list
  module _ (inside : Bool) (that : List K) (j k : ℕ) (s e : K) (s_is : s ≡ get_or that j s) (e_is : e ≡ get_or that k e) (more : j < length that) (more_too : k < length that) where
    pub less_from_read : IsAscending order that → j < k → order s e ≡ Less
    less_from_read up before =
        subst (λ z. order s z ≡ Less) (get_or_same that k s e more_too ∙ sym e_is) (subst (λ z. order z (get_or that k s) ≡ Less) (sym s_is) (up j k s before more_too))

    pub settled_read : (a : List K) → ((d : K) → IsSettled order inside a (get_or that j d) (get_or that k d)) → IsSettled order inside a s e
    settled_read a it =
        subst (λ z. IsSettled order inside a z e) (sym s_is)
        (subst (λ z. IsSettled order inside a (get_or that j s) z) (get_or_same that k s e more_too ∙ sym e_is) (it s))

    pub IsSet-read : (a new : List K) → IsSet order inside a s e new → (d : K) → IsSet order inside a (get_or that j d) (get_or that k d) new
    IsSet-read a new it d =
        subst (λ z. IsSet order inside a z (get_or that k d) new) (s_is ∙ get_or_same that j s d more)
        (subst (λ z. IsSet order inside a s z new) (e_is ∙ get_or_same that k e d more_too) it)

    pub settled_put : (a new : List K) (n : ℕ) → IsAscending order a → order s e ≡ Less → IsGap order inside a s e n → new ≡ spliced a n n (Some s) (Some e) →
        (d : K) → IsSettled order inside new (get_or that j d) (get_or that k d)
    settled_put a new n up less gap put d =
        let it : IsSet order inside a s e new =
        IsSet-spliced o inside a s e n n (Some s) (Some e) up less (cut_by_start inside a s e n up less gap) (cut_by_end inside a s e n up less gap) new put in
        settled_now inside a new (get_or that j d) (get_or that k d)
        (subst (λ z. order z (get_or that k d) ≡ Less) (s_is ∙ get_or_same that j s d more) (subst (λ z. order s z ≡ Less) (e_is ∙ get_or_same that k e d more_too) less))
        (IsSet-read a new it d)

-- nothing is undone where a call is done
pub nothing_undone : {E : Type 0} (r : Result (Unit {0}) E) (P : Type 0) → IsOk r → OnErr r P
nothing_undone (Ok x) P done = tt
nothing_undone (Err e) P done = absurd (true≢false (sym done))

pub two_items : {K : Type 0} (xs : List K) (x y : K) → length xs ≡ 2 → x ≡ get_or xs 0 x → y ≡ get_or xs 1 y → xs ≡ x ∷ y ∷ []
two_items [] x y h p q = absurd (omega (arith, h))
two_items (a ∷ []) x y h p q = absurd (omega (arith, h))
two_items (a ∷ b ∷ []) x y h p q = ap₂ (λ c d. c ∷ d ∷ []) (sym p) (sym q)
two_items (a ∷ b ∷ c ∷ l) x y h p q = absurd (omega (arith, h))

pub Greater-from_not_le : (r : Ordering) → is_le r ≡ false → r ≡ Greater
Greater-from_not_le Less h = absurd (true≢false h)
Greater-from_not_le Equal h = absurd (true≢false h)
Greater-from_not_le Greater h = refl

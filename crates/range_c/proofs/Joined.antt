-- Ranges whose ends ascend, and one more after them.
use Rattle.std.proofs.Common.{◌≡◌, refl, sym, ap, ap₂, ◌∙◌, subst, ℕ, ◌<◌, ◌≤◌, ◌+◌, ◌-◌, Bool, true, false, ◌&&◌, ◌||◌, List, [], ◌∷◌, ◌++◌, All, append_assoc, length, get_or, set, take, drop, arith}
use Rattle.std.specs.Cmp.{IsTotalOrder}
use Rattle.std.specs.List.{list_any}
use Rattle.std.specs.List.Sorted.{IsSortedByKey, IsPermutation}
use Rattle.std.proofs.lemmas.List.{get_or_default, get_or-drop, drop-drop, take_all, take_more, take_more_set}
use Rattle.std.proofs.lemmas.List.Sorted.{sorted_far, ranks_by, list_any-IsPermutation}
use Rattle.std.specs.Ordering.{is_le, is_lt, ordering_reverse}
use Rattle.std.specs.declared.cmp.Ordering.{Ordering}
use Rattle.std.specs.declared.cmp.Ordering.TheVariants.{Less, Equal, Greater}
use Rattle.std.proofs.lemmas.List.Elements.{All-nil, All-cons, All-head, All-tail, All-append, All-weaker}
use Rattle.std.proofs.lemmas.List.Folds.{list_any-append}
use Rattle.range_merge.specs.Connective.{differ}
use Rattle.range_merge.proofs.Members.{member-nil, member-cons, member-above, by_Ordering}
use Rattle.range_merge.proofs.Orders.{Greater-from_less, Less-from_greater, Equal-self}
use Rattle.range_collections.specs.Boundaries.{IsAscending, member}
use Rattle.range_collections.proofs.Ascending.{Less-from_is_lt, IsAscending-nil, IsAscending-head, IsAscending-tail, IsAscending-cons}
use Rattle.range_collections.proofs.Insertion.{IsAscending-append}
use Rattle.range_collections.proofs.Shortest.{is_le-cases, Less-from_le, Less-then_le, le-trans}
use Rattle.range_c.specs.Ranges.{is_within, ends_of, IsUnionOf}
use Rattle.range_c.specs.Joining.{IsPut}

-- the front of now holds the numbers of the first i ranges of was, of which none starts above a
-- later one, and from i on both are one
pub record IsJoined {P K : Type 0} (order : K → K → Ordering) (first last : P → K) (was : List P) (i : ℕ) (now : List P) (kept : ℕ) : Type 0 where
  pub in_front : kept ≤ i
  pub as_was : drop i now ≡ drop i was
  pub sorted : IsAscending order (ends_of first last (take kept now))
  pub members : (x : K) → list_any (is_within order first last x) (take kept now) ≡ list_any (is_within order first last x) (take i was)
  pub low : (k : ℕ) (d : P) → i ≤ k → k < length was → All (λ r. is_le (order (first r) (first (get_or was k d))) ≡ true) (take kept now)

-- an item of a list's end
item-was : {P : Type 0} (xs ys : List P) (i : ℕ) (x : P) → drop i xs ≡ drop i ys → x ≡ get_or xs i x → x ≡ get_or ys i x
item-was {P} xs ys i x e is = is ∙ sym (here xs) ∙ ap (λ us. get_or us 0 x) e ∙ here ys
  where
    none : i + 0 ≡ i
    none = omega arith

    here : (zs : List P) → get_or (drop i zs) 0 x ≡ get_or zs i x
    here zs = get_or-drop i zs 0 x ∙ ap (λ n. get_or zs n x) none

-- a front by its last item
pub front-by_last : {P : Type 0} (xs : List P) (n : ℕ) (b : P) → 0 < n → n ≤ length xs → b ≡ get_or xs (n - 1) b → take n xs ≡ take (n - 1) xs ++ b ∷ []
front-by_last xs n b some within is =
    let back : (n - 1) + 1 ≡ n = omega (arith, some) in
    sym (ap (λ m. take m xs) back) ∙ take_more xs (n - 1) b (omega (arith, some, within)) ∙ ap (λ y. take (n - 1) xs ++ y ∷ []) (sym is)

front-by_put : {P : Type 0} (xs : List P) (n : ℕ) (c : P) → 0 < n → n < length xs → take n (set xs (n - 1) c) ≡ take (n - 1) xs ++ c ∷ []
front-by_put xs n c some within =
    let back : (n - 1) + 1 ≡ n = omega (arith, some) in
    sym (ap (λ m. take m (set xs (n - 1) c)) back) ∙ take_more_set xs (n - 1) c (omega (arith, some, within))

twice : (m : Bool) → differ true (differ true m) ≡ m
twice true = refl
twice false = refl

once : (a : Bool) → differ a (differ false false) ≡ ((a && true) || false)
once true = refl
once false = refl

and-false : (a : Bool) → (a && false) ≡ false
and-false true = refl
and-false false = refl

pub or-false : (a : Bool) → (a || false) ≡ a
or-false true = refl
or-false false = refl

or-regroup : (a b c : Bool) → (a || ((b || c) || false)) ≡ ((a || (b || false)) || c)
or-regroup true b c = refl
or-regroup false true c = refl
or-regroup false false true = refl
or-regroup false false false = refl

pub is_lt-reverse : (v : Ordering) → is_le v ≡ true → is_lt (ordering_reverse v) ≡ false
is_lt-reverse Less h = refl
is_lt-reverse Equal h = refl
is_lt-reverse Greater h = cc

pub is_le-reverse : (v : Ordering) → is_lt v ≡ false → is_le (ordering_reverse v) ≡ true
is_le-reverse Less h = cc
is_le-reverse Equal h = refl
is_le-reverse Greater h = refl

-- the last item of a list in place of another
All-end : {K : Type 0} (F : K → Type 0) (ys : List K) (z : K) → All F (ys ++ z ∷ []) → F z
All-end F [] z h = All-head F z [] h
All-end F (y ∷ ys) z h = All-end F ys z (All-tail F y (ys ++ z ∷ []) h)

All-other_end : {K : Type 0} (F : K → Type 0) (ys : List K) (z w : K) → All F (ys ++ z ∷ []) → F w → All F (ys ++ w ∷ [])
All-other_end F [] z w h g = All-cons F w [] g (All-nil F)
All-other_end F (y ∷ ys) z w h g =
    All-cons F y (ys ++ w ∷ []) (All-head F y (ys ++ z ∷ []) h) (All-other_end F ys z w (All-tail F y (ys ++ z ∷ []) h) g)

module _ {K : Type 0} {order : K → K → Ordering} (o : IsTotalOrder order) where
  pub ascending-one : (z : K) → IsAscending order (z ∷ [])
  ascending-one z = IsAscending-cons order z [] (All-nil (λ y. order z y ≡ Less)) (IsAscending-nil order)

  ascending-two : (s e : K) → order s e ≡ Less → IsAscending order (s ∷ e ∷ [])
  ascending-two s e less = IsAscending-cons order s (e ∷ []) (All-cons (λ y. order s y ≡ Less) e [] less (All-nil (λ y. order s y ≡ Less))) (ascending-one e)

  pub below_end : (ys : List K) (z s : K) → IsAscending order (ys ++ z ∷ []) → order z s ≡ Less → All (λ y. order y s ≡ Less) (ys ++ z ∷ [])
  below_end [] z s up h = All-cons (λ y. order y s ≡ Less) z [] h (All-nil (λ y. order y s ≡ Less))
  below_end (y ∷ ys) z s up h =
      All-cons (λ w. order w s ≡ Less) y (ys ++ z ∷ [])
      (o.trans y z s (All-end (λ w. order y w ≡ Less) ys z (IsAscending-head order y (ys ++ z ∷ []) up)) h)
      (below_end ys z s (IsAscending-tail order y (ys ++ z ∷ []) up) h)

  ascending-other_end : (ys : List K) (z w : K) → IsAscending order (ys ++ z ∷ []) → order z w ≡ Less → IsAscending order (ys ++ w ∷ [])
  ascending-other_end [] z w up h = ascending-one w
  ascending-other_end (y ∷ ys) z w up h =
      let above = IsAscending-head order y (ys ++ z ∷ []) up in
      IsAscending-cons order y (ys ++ w ∷ [])
      (All-other_end (λ v. order y v ≡ Less) ys z w above (o.trans y z w (All-end (λ v. order y v ≡ Less) ys z above) h))
      (ascending-other_end ys z w (IsAscending-tail order y (ys ++ z ∷ []) up) h)

  module _ {P : Type 0} (first last : P → K) where
    abbrev holds : K → P → Bool
    holds x r = is_within order first last x r

    pub ends_of-append : (rs ts : List P) → ends_of first last (rs ++ ts) ≡ ends_of first last rs ++ ends_of first last ts
    ends_of-append [] ts = refl
    ends_of-append (r ∷ rs) ts = ap (λ us. first r ∷ last r ∷ us) (ends_of-append rs ts)

    -- the ends of one more range, its end apart
    pub ends_of-push : (rs : List P) (r : P) → ends_of first last (rs ++ r ∷ []) ≡ (ends_of first last rs ++ first r ∷ []) ++ last r ∷ []
    ends_of-push rs r = ends_of-append rs (r ∷ []) ∙ sym (append_assoc (ends_of first last rs) (first r ∷ []) (last r ∷ []))

    -- the members of the set whose boundaries are the ends of a range and others above it
    pub member-range_and : (r : P) (rest : List K) (x : K) (truth : Bool) → IsAscending order (first r ∷ last r ∷ rest) → member order rest x ≡ truth →
        member order (first r ∷ last r ∷ rest) x ≡ (holds x r || truth)
    member-range_and r rest x truth up others =
        let s = first r in
        let e = last r in
        let tail = IsAscending-tail order s (e ∷ rest) up in
        let above : All (λ y. order e y ≡ Less) rest = IsAscending-head order e rest tail in
        let less : order s e ≡ Less = All-head (λ y. order s y ≡ Less) e rest (IsAscending-head order s (e ∷ rest) up) in
        member-cons order s (e ∷ rest) x ∙ ap (differ (is_le (order s x))) (member-cons order e rest x)
        ∙ is_le-cases (order e x)
        (λ at.
        let low : is_le (order s x) ≡ true = ap is_le (Less-then_le o s e x less at) in
        ap₂ (λ a b. differ a (differ b (member order rest x))) low at ∙ twice (member order rest x) ∙ others
        ∙ sym (ap₂ (λ a l. (a && l) || truth) low (ap is_lt (o.antisymm x e) ∙ is_lt-reverse (order e x) at)))
        (λ past.
        let below : order x e ≡ Less = Less-from_greater o e x past in
        let none : member order rest x ≡ false = member-above order rest x (λ k d within. Greater-from_less o x _ (o.trans x e _ below (above k d within))) in
        ap₂ (λ b m. differ (is_le (order s x)) (differ b m)) (ap is_le past) none ∙ once (is_le (order s x))
        ∙ sym (ap₂ (λ l n. (is_le (order s x) && l) || n) (ap is_lt below) (sym others ∙ none)))

    -- the members of the set whose boundaries the ends are
    pub member-ends_of : (rs : List P) (x : K) → IsAscending order (ends_of first last rs) → member order (ends_of first last rs) x ≡ list_any (holds x) rs
    member-ends_of [] x up = member-nil order x
    member-ends_of (r ∷ rs) x up =
        let rest = ends_of first last rs in
        member-range_and r rest x (list_any (holds x) rs) up (member-ends_of rs x (IsAscending-tail order (last r) rest (IsAscending-tail order (first r) (last r ∷ rest) up)))

    abbrev starts_low : P → List P → Type 0
    starts_low r rs = All (λ t. is_le (order (first t) (first r)) ≡ true) rs

    -- a range of no number changes nothing
    pub IsPut-empty : (rs : List P) (r : P) → IsAscending order (ends_of first last rs) → starts_low r rs → is_lt (order (first r) (last r)) ≡ false → IsPut order first last rs r rs
    IsPut-empty rs r up low never = record {
      sorted = up;
      members = λ x. sym (or-false (list_any (holds x) rs)) ∙ ap (λ b. list_any (holds x) rs || b) (sym (none x));
      low = low;
    }
      where
        Less≢not : (v : Ordering) → is_lt v ≡ false → v ≡ Less → ⊥
        Less≢not v h e = let t : true ≡ false = sym (ap is_lt e) ∙ h in cc

        none : (x : K) → holds x r ≡ false
        none x =
            is_le-cases (order (first r) x)
            (λ at.
            by_Ordering (order x (last r)) (λ l. absurd (Less≢not (order (first r) (last r)) never (Less-from_le o (first r) x (last r) at l)))
            (λ e. ap (λ v. is_le (order (first r) x) && is_lt v) e ∙ and-false (is_le (order (first r) x)))
            (λ g. ap (λ v. is_le (order (first r) x) && is_lt v) g ∙ and-false (is_le (order (first r) x))))
            (λ past. ap (λ v. is_le v && is_lt (order x (last r))) past)

    -- a range that begins above all ends
    IsPut-after : (rs : List P) (r : P) → IsAscending order (ends_of first last rs) → starts_low r rs → order (first r) (last r) ≡ Less →
        All (λ y. order y (first r) ≡ Less) (ends_of first last rs) → IsPut order first last rs r (rs ++ r ∷ [])
    IsPut-after rs r up low less below = record {
      sorted =
          subst (IsAscending order) (sym (ends_of-append rs (r ∷ [])))
          (IsAscending-append o (ends_of first last rs) (first r ∷ last r ∷ []) up (ascending-two (first r) (last r) less)
          (λ k d within.
          let low_one = below k d within in
          let z = get_or (ends_of first last rs) k d in
          All-cons (λ y. order z y ≡ Less) (first r) (last r ∷ []) low_one
          (All-cons (λ y. order z y ≡ Less) (last r) [] (o.trans z (first r) (last r) low_one less) (All-nil (λ y. order z y ≡ Less)))));
      members = λ x. list_any-append (holds x) rs (r ∷ []) ∙ ap (λ b. list_any (holds x) rs || b) (or-false (holds x r));
      low =
          All-append (λ t. is_le (order (first t) (first r)) ≡ true) rs (r ∷ []) low
          (All-cons (λ t. is_le (order (first t) (first r)) ≡ true) r [] (ap is_le (Equal-self o (first r))) (All-nil (λ t. is_le (order (first t) (first r)) ≡ true)));
    }

    pub IsPut-first : (r : P) → is_lt (order (first r) (last r)) ≡ true → IsPut order first last [] r (r ∷ [])
    IsPut-first r some =
        IsPut-after [] r (IsAscending-nil order) (All-nil (λ t. is_le (order (first t) (first r)) ≡ true)) (Less-from_is_lt (order (first r) (last r)) some)
        (All-nil (λ y. order y (first r) ≡ Less))

    pub IsPut-apart : (rs : List P) (b r : P) → IsAscending order (ends_of first last (rs ++ b ∷ [])) → starts_low r (rs ++ b ∷ []) →
        is_lt (order (first r) (last r)) ≡ true → is_lt (order (last b) (first r)) ≡ true → IsPut order first last (rs ++ b ∷ []) r ((rs ++ b ∷ []) ++ r ∷ [])
    IsPut-apart rs b r up low some gap =
        IsPut-after (rs ++ b ∷ []) r up low (Less-from_is_lt (order (first r) (last r)) some)
        (subst (All (λ y. order y (first r) ≡ Less)) (sym (ends_of-push rs b))
        (below_end (ends_of first last rs ++ first b ∷ []) (last b) (first r) (subst (IsAscending order) (ends_of-push rs b) up) (Less-from_is_lt (order (last b) (first r)) gap)))

    -- the last range takes in the numbers of the other
    members-joined : (rs : List P) (b c r : P) → ((x : K) → holds x c ≡ (holds x b || holds x r)) → (x : K) →
        list_any (holds x) (rs ++ c ∷ []) ≡ (list_any (holds x) (rs ++ b ∷ []) || holds x r)
    members-joined rs b c r both x =
        list_any-append (holds x) rs (c ∷ []) ∙ ap (λ t. list_any (holds x) rs || (t || false)) (both x)
        ∙ or-regroup (list_any (holds x) rs) (holds x b) (holds x r)
        ∙ ap (λ t. t || holds x r) (sym (list_any-append (holds x) rs (b ∷ [])))

    -- a range inside the last one
    pub IsPut-inside : (rs : List P) (b r : P) → IsAscending order (ends_of first last (rs ++ b ∷ [])) → starts_low r (rs ++ b ∷ []) →
        is_lt (order (last b) (last r)) ≡ false → IsPut order first last (rs ++ b ∷ []) r (rs ++ b ∷ [])
    IsPut-inside rs b r up low short = record { sorted = up; members = members-joined rs b b r both; low = low }
      where
        starts : is_le (order (first b) (first r)) ≡ true
        starts = All-end (λ t. is_le (order (first t) (first r)) ≡ true) rs b low

        ends : is_le (order (last r) (last b)) ≡ true
        ends = ap is_le (o.antisymm (last r) (last b)) ∙ is_le-reverse (order (last b) (last r)) short

        both : (x : K) → holds x b ≡ (holds x b || holds x r)
        both x =
            is_le-cases (order (first r) x)
            (λ at.
            by_Ordering (order x (last r))
            (λ l.
            let yes_b : holds x b ≡ true = ap₂ (λ p q. p && q) (le-trans o (first b) (first r) x starts at) (ap is_lt (Less-then_le o x (last r) (last b) l ends)) in
            yes_b ∙ sym (ap (λ p. p || holds x r) yes_b))
            (λ e. sym (or-false (holds x b)) ∙ ap (λ q. holds x b || q) (sym (ap (λ v. is_le (order (first r) x) && is_lt v) e ∙ and-false (is_le (order (first r) x)))))
            (λ g. sym (or-false (holds x b)) ∙ ap (λ q. holds x b || q) (sym (ap (λ v. is_le (order (first r) x) && is_lt v) g ∙ and-false (is_le (order (first r) x))))))
            (λ past. sym (or-false (holds x b)) ∙ ap (λ q. holds x b || q) (sym (ap (λ v. is_le v && is_lt (order x (last r))) past)))

    -- a range that reaches beyond the last one
    pub IsPut-longer : (rs : List P) (b c r : P) → IsAscending order (ends_of first last (rs ++ b ∷ [])) → starts_low r (rs ++ b ∷ []) →
        is_lt (order (last b) (first r)) ≡ false → is_lt (order (last b) (last r)) ≡ true → first c ≡ first b → last c ≡ last r → IsPut order first last (rs ++ b ∷ []) r (rs ++ c ∷ [])
    IsPut-longer rs b c r up low touches far starts ends = record {
      sorted =
          subst (IsAscending order) (sym (ends_of-push rs c ∙ ap₂ (λ p q. (ends_of first last rs ++ p ∷ []) ++ q ∷ []) starts ends))
          (ascending-other_end (ends_of first last rs ++ first b ∷ []) (last b) (last r) (subst (IsAscending order) (ends_of-push rs b) up) beyond);
      members = members-joined rs b c r both;
      low = All-other_end (λ t. is_le (order (first t) (first r)) ≡ true) rs b c low (ap (λ p. is_le (order p (first r))) starts ∙ from);
    }
      where
        beyond : order (last b) (last r) ≡ Less
        beyond = Less-from_is_lt (order (last b) (last r)) far

        from : is_le (order (first b) (first r)) ≡ true
        from = All-end (λ t. is_le (order (first t) (first r)) ≡ true) rs b low

        reaches : is_le (order (first r) (last b)) ≡ true
        reaches = ap is_le (o.antisymm (first r) (last b)) ∙ is_le-reverse (order (last b) (first r)) touches

        is_c : (x : K) → holds x c ≡ (is_le (order (first b) x) && is_lt (order x (last r)))
        is_c x = ap₂ (λ p q. is_le (order p x) && is_lt (order x q)) starts ends

        both : (x : K) → holds x c ≡ (holds x b || holds x r)
        both x =
            is_c x
            ∙ is_le-cases (order (first r) x)
            (λ at.
            let from_b : is_le (order (first b) x) ≡ true = le-trans o (first b) (first r) x from at in
            ap (λ p. p && is_lt (order x (last r))) from_b
            ∙ by_Ordering (order x (last b))
            (λ l. ap is_lt (o.trans x (last b) (last r) l beyond) ∙ sym (ap (λ p. p || holds x r) (ap₂ (λ p q. p && q) from_b (ap is_lt l))))
            (λ e. sym (ap₂ (λ p q. p || q) (ap (λ v. is_le (order (first b) x) && is_lt v) e ∙ and-false (is_le (order (first b) x))) (ap (λ p. p && is_lt (order x (last r))) at)))
            (λ g. sym (ap₂ (λ p q. p || q) (ap (λ v. is_le (order (first b) x) && is_lt v) g ∙ and-false (is_le (order (first b) x))) (ap (λ p. p && is_lt (order x (last r))) at))))
            (λ past.
            let under : order x (last b) ≡ Less = Less-then_le o x (first r) (last b) (Less-from_greater o (first r) x past) reaches in
            ap (λ q. is_le (order (first b) x) && q) (ap is_lt (o.trans x (last b) (last r) under beyond))
            ∙ sym (ap₂ (λ p q. p || q) (ap (λ v. is_le (order (first b) x) && is_lt v) under) (ap (λ v. is_le v && is_lt (order x (last r))) past) ∙ or-false (is_le (order (first b) x) && true)))

    IsPut-shown : (before shown after seen : List P) (r : P) → before ≡ shown → after ≡ seen → IsPut order first last shown r seen → IsPut order first last before r after
    IsPut-shown before shown after seen r p q h =
        subst (λ us. IsPut order first last us r after) (sym p) (subst (λ vs. IsPut order first last shown r vs) (sym q) h)

    -- the same of the front of a longer list
    pub put-first : (xs : List P) (n : ℕ) (r : P) → n ≡ 0 → 0 < length xs → is_lt (order (first r) (last r)) ≡ true →
        IsPut order first last (take n xs) r (take 1 (set xs 0 r))
    put-first xs n r none within some =
        IsPut-shown (take n xs) [] (take 1 (set xs 0 r)) (r ∷ []) r (ap (λ m. take m xs) none) (take_more_set xs 0 r within) (IsPut-first r some)

    module _ (xs : List P) (n : ℕ) (b r : P) (some : 0 < n) (within : n < length xs) (is : b ≡ get_or xs (n - 1) b)
        (up : IsAscending order (ends_of first last (take n xs))) (low : starts_low r (take n xs)) where
      shown : take n xs ≡ take (n - 1) xs ++ b ∷ []
      shown = front-by_last xs n b some (omega (arith, within)) is

      shown_up : IsAscending order (ends_of first last (take (n - 1) xs ++ b ∷ []))
      shown_up = subst (λ us. IsAscending order (ends_of first last us)) shown up

      shown_low : starts_low r (take (n - 1) xs ++ b ∷ [])
      shown_low = subst (starts_low r) shown low

      pub put-apart : is_lt (order (first r) (last r)) ≡ true → is_lt (order (last b) (first r)) ≡ true → IsPut order first last (take n xs) r (take (n + 1) (set xs n r))
      put-apart filled gap =
          IsPut-shown (take n xs) (take (n - 1) xs ++ b ∷ []) (take (n + 1) (set xs n r)) ((take (n - 1) xs ++ b ∷ []) ++ r ∷ []) r shown
          (take_more_set xs n r within ∙ ap (λ us. us ++ r ∷ []) shown) (IsPut-apart (take (n - 1) xs) b r shown_up shown_low filled gap)

      pub put-inside : is_lt (order (last b) (last r)) ≡ false → IsPut order first last (take n xs) r (take n xs)
      put-inside short =
          IsPut-shown (take n xs) (take (n - 1) xs ++ b ∷ []) (take n xs) (take (n - 1) xs ++ b ∷ []) r shown shown
          (IsPut-inside (take (n - 1) xs) b r shown_up shown_low short)

      pub put-longer : (c : P) → is_lt (order (last b) (first r)) ≡ false → is_lt (order (last b) (last r)) ≡ true → first c ≡ first b → last c ≡ last r →
          IsPut order first last (take n xs) r (take n (set xs (n - 1) c))
      put-longer c touches far starts ends =
          IsPut-shown (take n xs) (take (n - 1) xs ++ b ∷ []) (take n (set xs (n - 1) c)) (take (n - 1) xs ++ c ∷ []) r shown (front-by_put xs n c some within)
          (IsPut-longer (take (n - 1) xs) b c r shown_up shown_low touches far starts ends)

    pub IsJoined-start : (was : List P) → IsJoined order first last was 0 was 0
    IsJoined-start was = record {
      in_front = omega arith;
      as_was = refl;
      sorted = IsAscending-nil order;
      members = λ x. refl;
      low = λ k d from within. All-nil (λ r. is_le (order (first r) (first (get_or was k d))) ≡ true);
    }

    pub IsJoined-low : (was now : List P) (i kept : ℕ) (r : P) → IsJoined order first last was i now kept → i < length was → r ≡ get_or now i r → starts_low r (take kept now)
    IsJoined-low was now i kept r h inside is =
        subst (λ y. All (λ t. is_le (order (first t) (first y)) ≡ true) (take kept now)) (sym (item-was now was i r h.as_was is)) (h.low i r (omega arith) inside)

    pub IsJoined-more : (was now new : List P) (i kept next : ℕ) (r : P) → IsSortedByKey first order was → IsJoined order first last was i now kept → i < length was → r ≡ get_or now i r →
        next ≤ kept + 1 → IsPut order first last (take kept now) r (take next new) → drop (kept + 1) new ≡ drop (kept + 1) now → IsJoined order first last was (i + 1) new next
    IsJoined-more was now new i kept next r up h inside is bound p after = record {
      in_front = omega (arith, h.in_front, bound);
      as_was = later;
      sorted = p.sorted;
      members = λ x.
          p.members x ∙ ap (λ b. b || holds x r) (h.members x)
          ∙ sym (ap (list_any (holds x)) (take_more was i r inside) ∙ list_any-append (holds x) (take i was) (get_or was i r ∷ [])
          ∙ ap (λ b. list_any (holds x) (take i was) || b) (or-false (holds x (get_or was i r)) ∙ ap (holds x) (sym r_is)));
      low = λ k d from within.
          All-weaker (λ t. is_le (order (first t) (first r)) ≡ true) (λ t. is_le (order (first t) (first (get_or was k d))) ≡ true)
          (λ t below. le-trans o (first t) (first r) (first (get_or was k d)) below (rise k d from within)) (take next new) p.low;
    }
      where
        r_is : r ≡ get_or was i r
        r_is = item-was now was i r h.as_was is

        rise : (k : ℕ) (d : P) → i + 1 ≤ k → k < length was → is_le (order (first r) (first (get_or was k d))) ≡ true
        rise k d from within =
            let far : is_lt (order (first (get_or was k d)) (first (get_or was i d))) ≡ false =
            sorted_far (λ x y. is_lt (order (first x) (first y))) (ranks_by o first) was up i k d (omega (arith, from)) within in
            let here : get_or was i d ≡ r = get_or_default was i d r inside ∙ sym r_is in
            ap is_le (o.antisymm (first r) (first (get_or was k d)))
            ∙ is_le-reverse (order (first (get_or was k d)) (first r)) (subst (λ y. is_lt (order (first (get_or was k d)) (first y)) ≡ false) here far)

        one_more : kept + 1 + (i - kept) ≡ i + 1
        one_more = omega (arith, h.in_front)

        by_kept : (zs : List P) → drop (i - kept) (drop (kept + 1) zs) ≡ drop (i + 1) zs
        by_kept zs = drop-drop (i - kept) (kept + 1) zs ∙ ap (λ n. drop n zs) one_more

        later : drop (i + 1) new ≡ drop (i + 1) was
        later =
            sym (by_kept new) ∙ ap (drop (i - kept)) after ∙ by_kept now
            ∙ sym (drop-drop 1 i now) ∙ ap (drop 1) h.as_was ∙ drop-drop 1 i was

    pub IsUnionOf-joined : (was now : List P) (i kept : ℕ) → IsJoined order first last was i now kept → length was ≤ i → IsUnionOf order first last was (take kept now)
    IsUnionOf-joined was now i kept h past = record {
      sorted = h.sorted;
      members = λ x. member-ends_of (take kept now) x h.sorted ∙ h.members x ∙ ap (list_any (holds x)) (take_all i was past);
    }

    pub IsUnionOf-permutation : (xs ys front : List P) → IsPermutation xs ys → IsUnionOf order first last ys front → IsUnionOf order first last xs front
    IsUnionOf-permutation xs ys front moved u = record {
      sorted = u.sorted;
      members = λ x. u.members x ∙ sym (list_any-IsPermutation (holds x) xs ys moved);
    }

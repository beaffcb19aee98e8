-- A range put into a set or taken out of it: where the list is cut, and what stands between the
-- cuts.
use Rattle.std.proofs.Common.{suc, ◌≡◌, ◌≢◌, refl, sym, ap, ap₂, ◌∙◌, subst, ℕ, inl, inr, ◌<◌, ◌≤◌, ◌+◌, ◌%◌, ◌==◌, Option, Some, None, Bool, true, false, not, cond, ◌&&◌, List, [], ◌∷◌, ◌++◌, length, take, drop, get_or, arith, All, Contains, true≢false, Result, Ok, Err, OnOk, OnErr, append_assoc, length-append}
use Rattle.std.proofs.Math.Bool.{beq}
use Rattle.std.specs.List.{HoldsAt, AllWithin}
use Rattle.std.specs.Option.{option_to_list}
use Rattle.std.proofs.lemmas.Bool.{cases_lt}
use Rattle.std.proofs.lemmas.List.{length-take-le}
use Rattle.std.proofs.lemmas.List.Elements.{All-nil, All-cons, All-head, All-tail, All-append, All-take, All-drop, All-weaker, All-contains_itself, length_all_zip}
use Rattle.std.specs.Cmp.{IsTotalOrder}
use Rattle.std.proofs.lemmas.Cmp.{tied_back}
use Rattle.std.specs.declared.cmp.Ordering.{Ordering}
use Rattle.std.specs.declared.cmp.Ordering.TheVariants.{Less, Equal, Greater}
use Rattle.std.specs.Ordering.{is_le, is_lt}
use Rattle.range_merge.specs.Boundaries.{IsAscending, count_up_to, member, is_odd}
use Rattle.range_merge.specs.Connective.{Table, Means, differ, union_table, difference_table}
use Rattle.range_merge.proofs.Members.{member-nil, by_Ordering}
use Rattle.range_merge.proofs.Orders.{Greater-from_less, Less-from_greater, Equal-self}
use Rattle.range_merge.proofs.Pairs.{AllPairs-drop}
use Rattle.range_merge.proofs.Parity.{is_odd-add, is_odd-suc}
use Rattle.range_merge.proofs.SameSet.{same_items}
use Rattle.range_collections.specs.InPlace.{IsOwnElse, AreOwnElseOf}
use Rattle.range_collections.specs.Splicing.{range_table, spliced, IsCut}
use Rattle.range_collections.specs.Ranges.{range_items}
use Rattle.range_collections.proofs.Ascending.{IsAscending-nil, IsAscending-head, IsAscending-tail, IsAscending-cons}
use Rattle.range_collections.proofs.Cut.{IsAscending-take, count_up_to-front, All-take_within, All-drop_within, before_found, after_found, le_found, from_found}
use Rattle.range_collections.proofs.Shortest.{is_le-cases, count_up_to-append, count_up_to-all, count_up_to-none, Less-from_le, Less-then_le, le-trans, le-from_greater}
use Rattle.range_collections.proofs.Values.{IsAscending-one, member-two}

-- truths

pub other_truth : (p q : Bool) → (p ≡ q → ⊥) → not p ≡ q
other_truth true true h = absurd (h refl)
other_truth true false h = refl
other_truth false true h = refl
other_truth false false h = absurd (h refl)

pub same_from_beq : (p q : Bool) → beq p q ≡ true → p ≡ q
same_from_beq true true h = refl
same_from_beq true false h = cc
same_from_beq false true h = cc
same_from_beq false false h = refl

pub other_from_beq : (p q : Bool) → beq p q ≡ false → p ≡ q → ⊥
other_from_beq true true h e = cc
other_from_beq true false h e = cc
other_from_beq false true h e = cc
other_from_beq false false h e = cc

plus_zero : (n : ℕ) → n + 0 ≡ n
plus_zero n = omega arith

pub is_odd-one_more : (n : ℕ) (b : Bool) → (is_odd n ≡ b → ⊥) → is_odd (n + 1) ≡ b
is_odd-one_more n b h =
    let e : n + 1 ≡ suc n = omega arith in
    ap is_odd e ∙ is_odd-suc n ∙ other_truth (is_odd n) b h

-- two numbers of one parity keep it when the same is added
is_odd-plus : (m n k : ℕ) → is_odd m ≡ is_odd n → is_odd (m + k) ≡ is_odd (n + k)
is_odd-plus m n k e = is_odd-add m k ∙ ap (λ b. differ b (is_odd k)) e ∙ sym (is_odd-add n k)

-- a number added twice drops out
is_odd-twice : (n k : ℕ) → is_odd (n + k + k) ≡ is_odd n
is_odd-twice n k =
    let e : (n + k + k) % 2 ≡ n % 2 = omega arith in
    ap (λ m. m == 1) e

module _ {K : Type 0} {order : K → K → Ordering} (o : IsTotalOrder order) where
  le-from_less : (x y : K) → order x y ≡ Less → is_le (order x y) ≡ true
  le-from_less x y l = ap is_le l

  -- ---- where a search leads
  module _ (inside : Bool) (xs : List K) (at : K) (i : ℕ) (up : IsAscending order xs) where
    none_is_put : All (λ y. (y ≡ at) × All (λ x. order x at ≢ Equal) xs) []
    none_is_put = All-nil (λ y. (y ≡ at) × All (λ x. order x at ≢ Equal) xs)

    pub IsCut-before_found : i < length xs → HoldsAt (λ y. order y at ≡ Equal) xs i → is_odd i ≡ inside → IsCut order inside xs at i None
    IsCut-before_found within here odd = record {
      within = omega arith;
      before = λ k d low high. le-from_less (get_or xs k d) at (before_found o at xs i up within here k d low high);
      from = from_found o at xs i up within here (λ y. is_le (order at y) ≡ true) (λ y e. ap is_le (tied_back o y at e)) (λ y g. le-from_greater o y at g);
      is_put = none_is_put;
      parity = ap is_odd (plus_zero i) ∙ odd;
    }

    pub IsCut-after_found : i < length xs → HoldsAt (λ y. order y at ≡ Equal) xs i → (is_odd i ≡ inside → ⊥) → IsCut order inside xs at (i + 1) None
    IsCut-after_found within here even = record {
      within = omega arith;
      before = le_found o at xs i up within here;
      from = λ k d low high. le-from_greater o (get_or xs k d) at (after_found o at xs i up within here k d low high);
      is_put = none_is_put;
      parity = ap is_odd (plus_zero (i + 1)) ∙ is_odd-one_more i inside even;
    }

    module _ (within : i ≤ length xs) (before : AllWithin (λ y. order y at ≡ Less) xs 0 i) (from : AllWithin (λ y. order y at ≡ Greater) xs i (length xs)) where
      none_equal : All (λ x. order x at ≢ Equal) xs
      none_equal k d more =
          elim (cases_lt k i) as (λ _. order (get_or xs k d) at ≢ Equal) [
            | inl less ↦ λ e. let off : Less ≡ Equal = sym (before k d (omega arith) less) ∙ e in absurd (cc)
            | inr high ↦ λ e. let off : Greater ≡ Equal = sym (from k d high more) ∙ e in absurd (cc)
          ]

      pub IsCut-missing : is_odd i ≡ inside → IsCut order inside xs at i None
      IsCut-missing odd = record {
        within = within;
        before = λ k d low high. le-from_less (get_or xs k d) at (before k d low high);
        from = λ k d low high. le-from_greater o (get_or xs k d) at (from k d low high);
        is_put = none_is_put;
        parity = ap is_odd (plus_zero i) ∙ odd;
      }

      pub IsCut-put : (is_odd i ≡ inside → ⊥) → IsCut order inside xs at i (Some at)
      IsCut-put even = record {
        within = within;
        before = λ k d low high. le-from_less (get_or xs k d) at (before k d low high);
        from = λ k d low high. le-from_greater o (get_or xs k d) at (from k d low high);
        is_put = All-cons (λ y. (y ≡ at) × All (λ x. order x at ≢ Equal) xs) at [] (refl, none_equal) none_is_put;
        parity = is_odd-one_more i inside even;
      }

  -- two ascending lists, each item of the first below each of the second
  pub IsAscending-append : (xs ys : List K) → IsAscending order xs → IsAscending order ys → All (λ x. All (λ y. order x y ≡ Less) ys) xs →
      IsAscending order (xs ++ ys)
  IsAscending-append [] ys p q h = q
  IsAscending-append (x ∷ xs) ys p q h =
      IsAscending-cons order x (xs ++ ys)
      (All-append (λ y. order x y ≡ Less) xs ys (IsAscending-head order x xs p) (All-head (λ z. All (λ y. order z y ≡ Less) ys) x xs h))
      (IsAscending-append xs ys (IsAscending-tail order x xs p) q (All-tail (λ z. All (λ y. order z y ≡ Less) ys) x xs h))

  -- ---- a list spliced between the cuts at a start and at an end above it
  module _ (inside : Bool) (a : List K) (start end : K) (from to : ℕ) (s e : Option K)
      (up : IsAscending order a) (less : order start end ≡ Less) (p : IsCut order inside a start from s) (q : IsCut order inside a end to e) where
    pub cuts_ordered : from ≤ to
    cuts_ordered =
        elim (cases_lt to from) as (λ _. from ≤ to) [
          | inl crossed ↦
              let high : is_le (order end (get_or a to start)) ≡ true = q.from to start (omega arith) (omega (arith, p.within)) in
              let low : is_le (order (get_or a to start) start) ≡ true = p.before to start (omega arith) crossed in
              let off : order end end ≡ Less = Less-from_le o end start end (le-trans o end (get_or a to start) start high low) less in
              let same : order end end ≡ Equal = Equal-self o end in
              absurd (cc)
          | inr fine ↦ fine
        ]

    pub same_parity : is_odd (from + length (option_to_list s)) ≡ is_odd (to + length (option_to_list e))
    same_parity = p.parity ∙ sym q.parity

    -- what is put is the element of its cut
    put_start : (P : K → Type 0) → P start → All P (option_to_list s)
    put_start P h =
        All-weaker (λ y. (y ≡ start) × All (λ x. order x start ≢ Equal) a) P (λ y w. subst P (sym w.0) h) (option_to_list s) p.is_put

    put_end : (P : K → Type 0) → P end → All P (option_to_list e)
    put_end P h =
        All-weaker (λ y. (y ≡ end) × All (λ x. order x end ≢ Equal) a) P (λ y w. subst P (sym w.0) h) (option_to_list e) q.is_put

    abbrev kept_front : List K
    kept_front = take from a

    abbrev kept_back : List K
    kept_back = drop to a

    abbrev front : List K
    front = take from a ++ option_to_list s

    abbrev back : List K
    back = option_to_list e ++ drop to a

    in_parts : spliced a from to s e ≡ front ++ back
    in_parts = sym (append_assoc (take from a) (option_to_list s) (option_to_list e ++ drop to a))

    length-front : length front ≡ from + length (option_to_list s)
    length-front = omega (arith, length-append (take from a) (option_to_list s), length-take-le from a p.within)

    front_low : All (λ y. is_le (order y start) ≡ true) kept_front
    front_low = All-take_within order (λ y. is_le (order y start) ≡ true) from a p.within p.before

    back_high : All (λ y. is_le (order end y) ≡ true) kept_back
    back_high = All-drop_within order (λ y. is_le (order end y) ≡ true) to a q.within q.from

    whole_front_low : All (λ y. is_le (order y start) ≡ true) front
    whole_front_low =
        All-append (λ y. is_le (order y start) ≡ true) kept_front (option_to_list s) front_low
        (put_start (λ y. is_le (order y start) ≡ true) (ap is_le (Equal-self o start)))

    whole_back_high : All (λ y. is_le (order end y) ≡ true) back
    whole_back_high =
        All-append (λ y. is_le (order end y) ≡ true) (option_to_list e) kept_back
        (put_end (λ y. is_le (order end y) ≡ true) (ap is_le (Equal-self o end))) back_high

    -- at or below, and not equal
    Less-from_other : (x y : K) → is_le (order x y) ≡ true → order x y ≢ Equal → order x y ≡ Less
    Less-from_other x y h n = by_Ordering (order x y) (λ l. l) (λ t. absurd (n t)) (λ g. absurd (true≢false (sym h ∙ ap is_le g)))

    ascending_one : (put : Option K) → IsAscending order (option_to_list put)
    ascending_one None = IsAscending-nil order
    ascending_one (Some y) = IsAscending-one o y

    front_below_put : All (λ x. All (λ y. order x y ≡ Less) (option_to_list s)) kept_front
    front_below_put k d within =
        All-weaker (λ y. (y ≡ start) × All (λ x. order x start ≢ Equal) a) (λ y. order (get_or kept_front k d) y ≡ Less)
        (λ y w.
        subst (λ z. order (get_or kept_front k d) z ≡ Less) (sym w.0)
        (Less-from_other (get_or kept_front k d) start (front_low k d within)
        (All-take (λ x. order x start ≢ Equal) from a w.1 k d within)))
        (option_to_list s) p.is_put

    put_below_back : All (λ x. All (λ y. order x y ≡ Less) kept_back) (option_to_list e)
    put_below_back =
        All-weaker (λ y. (y ≡ end) × All (λ x. order x end ≢ Equal) a) (λ x. All (λ y. order x y ≡ Less) kept_back)
        (λ x w.
        subst (λ z. All (λ y. order z y ≡ Less) kept_back) (sym w.0)
        (λ k d within.
        Less-from_other end (get_or kept_back k d) (back_high k d within)
        (λ t. All-drop (λ y. order y end ≢ Equal) to a w.1 k d within (tied_back o end (get_or kept_back k d) t))))
        (option_to_list e) q.is_put

    IsAscending-parts : IsAscending order (front ++ back)
    IsAscending-parts =
        IsAscending-append front back
        (IsAscending-append kept_front (option_to_list s) (IsAscending-take order from a up) (ascending_one s) front_below_put)
        (IsAscending-append (option_to_list e) kept_back (ascending_one e) (AllPairs-drop (λ x y. order x y ≡ Less) to a up) put_below_back)
        (λ k d within i c more.
        Less-from_le o (get_or front k d) start (get_or back i c) (whole_front_low k d within)
        (Less-then_le o start end (get_or back i c) less (whole_back_high i c more)))

    pub IsAscending-spliced : IsAscending order (spliced a from to s e)
    IsAscending-spliced = rw in_parts IsAscending-parts

    count_parts : (x : K) → count_up_to order (spliced a from to s e) x ≡ count_up_to order front x + count_up_to order back x
    count_parts x = ap (λ ys. count_up_to order ys x) in_parts ∙ count_up_to-append order front back x

    -- below the end nothing of the back counts
    none_of_back : (x : K) → order x end ≡ Less → count_up_to order back x ≡ 0
    none_of_back x low =
        count_up_to-none order x back (λ k d within. Greater-from_less o x (get_or back k d) (Less-then_le o x end (get_or back k d) low (whole_back_high k d within)))

    -- from the start on all of the front counts
    all_of_front : (x : K) → is_le (order start x) ≡ true → count_up_to order front x ≡ from + length (option_to_list s)
    all_of_front x far =
        count_up_to-all order x front (λ k d within. le-trans o (get_or front k d) start x (whole_front_low k d within) far) ∙ length-front

    member-below_start : (x : K) → order x start ≡ Less → member order (spliced a from to s e) x ≡ member order a x
    member-below_start x low =
        let put : count_up_to order (option_to_list s) x ≡ 0 =
        count_up_to-none order x (option_to_list s) (put_start (λ y. order y x ≡ Greater) (Greater-from_less o x start low)) in
        let rest : count_up_to order (drop from a) x ≡ 0 =
        count_up_to-none order x (drop from a)
        (All-drop_within order (λ y. order y x ≡ Greater) from a p.within
        (λ k d more high. Greater-from_less o x (get_or a k d) (Less-then_le o x start (get_or a k d) low (p.from k d more high)))) in
        ap is_odd
        (omega (
          arith,
          count_parts x,
          none_of_back x (o.trans x start end low less),
          count_up_to-append order kept_front (option_to_list s) x,
          put,
          count_up_to-front order from a x,
          rest,
        ))

    member-in_range : (x : K) → is_le (order start x) ≡ true → order x end ≡ Less → member order (spliced a from to s e) x ≡ inside
    member-in_range x far low =
        let n : count_up_to order (spliced a from to s e) x ≡ from + length (option_to_list s) = omega (arith, count_parts x, all_of_front x far, none_of_back x low) in
        ap is_odd n ∙ p.parity

    member-from_end : (x : K) → is_le (order end x) ≡ true → member order (spliced a from to s e) x ≡ member order a x
    member-from_end x far =
        let r : ℕ = count_up_to order (drop to a) x in
        let m : ℕ = length (option_to_list e) in
        let high : is_le (order start x) ≡ true = ap is_le (Less-then_le o start end x less far) in
        let put : count_up_to order (option_to_list e) x ≡ m = count_up_to-all order x (option_to_list e) (put_end (λ y. is_le (order y x) ≡ true) far) in
        let gone : count_up_to order (take to a) x ≡ to =
        count_up_to-all order x (take to a)
        (All-take_within order (λ y. is_le (order y x) ≡ true) to a q.within (λ k d low more. le-trans o (get_or a k d) end x (q.before k d low more) far))
        ∙ length-take-le to a q.within in
        let new : count_up_to order (spliced a from to s e) x ≡ from + length (option_to_list s) + (m + r) =
        omega (arith, count_parts x, all_of_front x high, count_up_to-append order (option_to_list e) kept_back x, put) in
        let old : count_up_to order a x ≡ to + r = omega (arith, count_up_to-front order to a x, gone) in
        let regrouped : to + m + (m + r) ≡ (to + r) + m + m = omega arith in
        ap is_odd new
        ∙ is_odd-plus (from + length (option_to_list s)) (to + m) (m + r) same_parity
        ∙ ap is_odd regrouped
        ∙ is_odd-twice (to + r) m
        ∙ sym (ap is_odd old)

    member-spliced : (x : K) → member order (spliced a from to s e) x ≡ range_table inside (member order a x) (is_le (order start x) && is_lt (order x end))
    member-spliced x =
        is_le-cases (order start x)
        (λ t.
        by_Ordering (order x end)
        (λ l. member-in_range x t l ∙ ap₂ (λ b c. cond (b && c) inside (member order a x)) (sym t) (ap is_lt (sym l)))
        (λ u. member-from_end x (ap is_le (tied_back o x end u)) ∙ ap₂ (λ b c. cond (b && c) inside (member order a x)) (sym t) (ap is_lt (sym u)))
        (λ g. member-from_end x (le-from_greater o x end g) ∙ ap₂ (λ b c. cond (b && c) inside (member order a x)) (sym t) (ap is_lt (sym g))))
        (λ g.
        member-below_start x (Less-from_greater o start x g)
        ∙ ap (λ b. cond (b && is_lt (order x end)) inside (member order a x)) (ap is_le (sym g)))

    range_is : range_items order start end ≡ start ∷ end ∷ []
    range_is = ap (λ r. cond (is_lt r) (start ∷ end ∷ []) []) less

    pub Means-spliced : Means order (range_table inside) (spliced a from to s e) a (range_items order start end)
    Means-spliced = record {
      sorted = IsAscending-spliced;
      members = λ x.
          member-spliced x
          ∙ ap (range_table inside (member order a x)) (sym (ap (λ ys. member order ys x) range_is ∙ member-two o start end x less));
    }

    -- every list that means the same has the spliced one's length
    pub length-meant : (items : List K) → Means order (range_table inside) items a (range_items order start end) → length items ≡ length (spliced a from to s e)
    length-meant items m =
        length_all_zip (λ x y. order x y ≡ Equal) items (spliced a from to s e)
        (same_items o items (spliced a from to s e) m.sorted IsAscending-spliced (λ x. m.members x ∙ sym (Means-spliced.members x)))

    Contains-start : Contains (range_items order start end) start
    Contains-start = rw range_is (0, omega arith, refl)

    Contains-end : Contains (range_items order start end) end
    Contains-end = rw range_is (1, omega arith, refl)

    pub AreOwnElseOf-spliced : AreOwnElseOf order a (range_items order start end) (spliced a from to s e)
    AreOwnElseOf-spliced =
        let Own = IsOwnElse order (Contains (range_items order start end)) a in
        let own : All Own a = All-weaker (Contains a) Own (λ y h. inl h) a (All-contains_itself a) in
        rw in_parts
        (All-append Own front back
        (All-append Own kept_front (option_to_list s) (All-take Own from a own)
        (All-weaker (λ y. (y ≡ start) × All (λ x. order x start ≢ Equal) a) Own
        (λ y w. subst Own (sym w.0) (inr (Contains-start, w.1))) (option_to_list s) p.is_put))
        (All-append Own (option_to_list e) kept_back
        (All-weaker (λ y. (y ≡ end) × All (λ x. order x end ≢ Equal) a) Own
        (λ y w. subst Own (sym w.0) (inr (Contains-end, w.1))) (option_to_list e) q.is_put)
        (All-drop Own to a own)))

  -- ---- a range whose start isn't below its end
  module _ (inside : Bool) (a : List K) (start end : K) (up : IsAscending order a) (off : is_lt (order start end) ≡ false) where
    no_range : range_items order start end ≡ []
    no_range = ap (λ b. cond b (start ∷ end ∷ []) []) off

    pub Means-no_range : Means order (range_table inside) a a (range_items order start end)
    Means-no_range = record {
      sorted = up;
      members = λ x. ap (λ b. cond b inside (member order a x)) (sym (ap (λ ys. member order ys x) no_range ∙ member-nil order x));
    }

  pub AreOwnElseOf-unchanged : (a b : List K) → AreOwnElseOf order a b a
  AreOwnElseOf-unchanged a b = All-weaker (Contains a) (IsOwnElse order (Contains b) a) (λ y h. inl h) a (All-contains_itself a)

-- a list ascends where it is the new one or, refused, the old one
pub IsAscending-answer : {K X E : Type 0} (order : K → K → Ordering) (r : Result X E) (new xs a : List K) → OnOk r (new ≡ xs) → OnErr r (new ≡ a) →
    IsAscending order xs → IsAscending order a → IsAscending order new
IsAscending-answer order (Ok x) new xs a taken same up old = rw taken up
IsAscending-answer order (Err e) new xs a taken same up old = rw same old

-- ---- tables that answer alike

module _ {K : Type 0} {order : K → K → Ordering} where
  pub Means-alike : (f g : Table) → ((b c : Bool) → f b c ≡ g b c) → (items a b : List K) → Means order f items a b → Means order g items a b
  Means-alike f g same items a b m = record {
    sorted = m.sorted;
    members = λ x. m.members x ∙ same (member order a x) (member order b x);
  }

pub union-alike : (b c : Bool) → range_table true b c ≡ union_table b c
union-alike true true = refl
union-alike true false = refl
union-alike false true = refl
union-alike false false = refl

pub difference-alike : (b c : Bool) → range_table false b c ≡ difference_table b c
difference-alike true true = refl
difference-alike true false = refl
difference-alike false true = refl
difference-alike false false = refl

-- a range without boundaries has no start below its end
pub not_less-from_no_items : {K : Type 0} (order : K → K → Ordering) (start end : K) → range_items order start end ≡ [] → is_lt (order start end) ≡ false
not_less-from_no_items {K} order start end none = no_items (is_lt (order start end)) none
  where
    no_items : (t : Bool) → cond t (start ∷ end ∷ []) [] ≡ [] → t ≡ false
    no_items true h = absurd (omega (arith, ap length h))
    no_items false h = refl

-- The ranges from the sorted starts of ranges to their sorted ends: they have the same elements, and
-- of equal boundaries the same is the first.
use Rattle.std.proofs.Common.{◌≡◌, ◌⊎◌, inl, inr, ⊎_elim, refl, sym, ap, ap₂, ◌∙◌, subst, ℕ, suc, ◌+◌, ◌<◌, ◌≤◌, Bool, true, false, not, cond, ◌||◌, ◌&&◌, List, [], ◌∷◌, ◌++◌, length, get_or, take, drop, arith, All, Contains, true≢false, Ok, length-append}
use Rattle.std.specs.Prelude.{⊤, filter, slice_get}
use Rattle.std.specs.Cmp.{IsTotalOrder}
use Rattle.std.specs.List.{flat_map, sum_by}
use Rattle.std.specs.List.Sorted.{IsPermutation, IsSorted, IsStable, ties}
use Rattle.std.specs.Ordering.{is_eq, is_le, is_lt}
use Rattle.std.specs.declared.cmp.Ordering.{Ordering}
use Rattle.std.specs.declared.cmp.Ordering.TheVariants.{Less, Equal, Greater}
use Rattle.std.proofs.lemmas.List.{append-nil, get_or_default}
use Rattle.std.proofs.lemmas.List.Elements.{All-cons, All-weaker, filter-append, filter_agree}
use Rattle.std.proofs.lemmas.List.Sorted.{sorted_far, ranks_by, sum_by-IsPermutation, length_permutation}
use Rattle.std.proofs.lemmas.List.Sums.{sum_by-cons}
use Rattle.range_merge.specs.Boundaries.{count_below, count_up_to, is_odd, member}
use Rattle.range_merge.proofs.Members.{count_below-cons, count_below-nil, count_up_to-cons, count_up_to-nil, member-nil, by_Ordering}
use Rattle.range_merge.proofs.Orders.{Equal-self, Equal-sym, Greater-from_less, Less-from_equal, Less-from_greater, Less-then_equal}
use Rattle.range_collections.specs.ManyRanges.{GivesOwn, ends_of, pairs_of, starts_of}
use Rattle.range_collections.specs.Ranges.{range_boundaries}
use Rattle.range_collections.specs.Unions.{is_in_one, IsUnionOf}
use Rattle.range_collections.specs.declared.range_set_range.RangeSetRange.{RangeSetRange}
use Rattle.range_collections.specs.declared.range_set_range.RangeSetRange.TheVariants.{Range, RangeFrom}
use Rattle.range_collections.proofs.CountUpTo.{count_up_to-cons_in}
use Rattle.range_collections.proofs.FirstOf.{ties-is_eq}
use Rattle.range_collections.proofs.FirstParts.{below_kept, below_none, changes_at, just_below, not_own_opposite}
use Rattle.range_collections.proofs.ManyRanges.{range_is}
use Rattle.range_collections.proofs.Shortest.{count_up_to-append, count_up_to-none, is_le-cases, le-trans, Less-then_le}
use Rattle.range_collections.proofs.Values.{member-one, member-two}

abbrev bit : Bool → ℕ
bit true = 1
bit false = 0

cond-suc : (t : Bool) (n : ℕ) → cond t (suc n) n ≡ bit t + n
cond-suc true n = omega arith
cond-suc false n = omega arith

and-true : (t : Bool) → (t && true) ≡ t
and-true true = refl
and-true false = refl

and-false : (t : Bool) → (t && false) ≡ false
and-false true = refl
and-false false = refl

or-left : (p q : Bool) → p ≡ true → (p || q) ≡ true
or-left true q h = refl
or-left false q h = absurd (true≢false (sym h))

or-right : (p q : Bool) → q ≡ true → (p || q) ≡ true
or-right true q h = refl
or-right false q h = h

or-second : (p q : Bool) → p ≡ false → (p || q) ≡ true → q ≡ true
or-second true q f h = absurd (true≢false f)
or-second false q f h = h

or-neither : (p q : Bool) → (p || q) ≡ false → (p ≡ false) × (q ≡ false)
or-neither true q h = absurd (true≢false h)
or-neither false q h = (refl, h)

by_truth : {G : Type 0} (t : Bool) → (t ≡ true → G) → (t ≡ false → G) → G
by_truth true on off = on refl
by_truth false on off = off refl

append-neither : {X : Type 0} (xs ys : List X) → xs ++ ys ≡ [] → (xs ≡ []) × (ys ≡ [])
append-neither [] ys h = (refl, h)
append-neither (x ∷ xs) ys h = absurd (let no : suc (length (xs ++ ys)) ≡ 0 = ap length h in omega (arith, no))

length-parts : {X : Type 0} (xs : List X) → length xs ≡ length (take 1 xs) + length (drop 1 xs)
length-parts [] = refl
length-parts (x ∷ xs) = omega arith

filter-parts : {X : Type 0} (p : X → Bool) (xs : List X) → filter p xs ≡ filter p (take 1 xs) ++ filter p (drop 1 xs)
filter-parts p [] = refl
filter-parts p (x ∷ xs) = filter-append p (x ∷ []) xs

module _ {K : Type 0} (order : K → K → Ordering) where
  up-one : (y x : K) → count_up_to order (y ∷ []) x ≡ bit (is_le (order y x))
  up-one y x = count_up_to-cons order y [] x ∙ ap (λ n. cond (is_le (order y x)) (suc n) n) (count_up_to-nil order x) ∙ cond-suc (is_le (order y x)) 0 ∙ omega arith

  below-one : (y x : K) → count_below order (y ∷ []) x ≡ bit (is_lt (order y x))
  below-one y x = count_below-cons order y [] x ∙ ap (λ n. cond (is_lt (order y x)) (suc n) n) (count_below-nil order x) ∙ cond-suc (is_lt (order y x)) 0 ∙ omega arith

  below-more : (y : K) (ys : List K) (x : K) → count_below order (y ∷ ys) x ≡ bit (is_lt (order y x)) + count_below order ys x
  below-more y ys x = count_below-cons order y ys x ∙ cond-suc (is_lt (order y x)) (count_below order ys x)

  below-append : (xs ys : List K) (x : K) → count_below order (xs ++ ys) x ≡ count_below order xs x + count_below order ys x
  below-append [] ys x = omega (arith, count_below-nil order x)
  below-append (z ∷ zs) ys x = omega (arith, below-more z (zs ++ ys) x, below-more z zs x, below-append zs ys x)

  -- counts as sums, which a permutation keeps
  up-sum : (x : K) (xs : List K) → count_up_to order xs x ≡ sum_by (λ y. bit (is_le (order y x))) xs
  up-sum x [] = count_up_to-nil order x
  up-sum x (y ∷ ys) =
      omega (
        arith,
        count_up_to-cons order y ys x ∙ cond-suc (is_le (order y x)) (count_up_to order ys x),
        up-sum x ys,
        sum_by-cons (λ z. bit (is_le (order z x))) y ys,
      )

  below-sum : (x : K) (xs : List K) → count_below order xs x ≡ sum_by (λ y. bit (is_lt (order y x))) xs
  below-sum x [] = count_below-nil order x
  below-sum x (y ∷ ys) = omega (arith, below-more y ys x, below-sum x ys, sum_by-cons (λ z. bit (is_lt (order z x))) y ys)

  up-permutation : (x : K) (xs ys : List K) → IsPermutation xs ys → count_up_to order ys x ≡ count_up_to order xs x
  up-permutation x xs ys p = up-sum x ys ∙ sum_by-IsPermutation (λ y. bit (is_le (order y x))) xs ys p ∙ sym (up-sum x xs)

  below-permutation : (x : K) (xs ys : List K) → IsPermutation xs ys → count_below order ys x ≡ count_below order xs x
  below-permutation x xs ys p = below-sum x ys ∙ sum_by-IsPermutation (λ y. bit (is_lt (order y x))) xs ys p ∙ sym (below-sum x xs)

  -- no item is above a later one
  abbrev Rises : List K → Type 0
  Rises [] = ⊤
  Rises (x ∷ xs) = All (λ y. is_le (order x y) ≡ true) xs × Rises xs

  -- in how many of the ranges an element lies
  abbrev held : K → List (RangeSetRange K) → ℕ
  held x [] = 0
  held x (r ∷ rs) = bit (member order (range_boundaries order r) x) + held x rs

  held-none : (x : K) (rs : List (RangeSetRange K)) → is_in_one order (range_boundaries order) rs x ≡ false → held x rs ≡ 0
  held-none x [] h = refl
  held-none x (r ∷ rs) h =
      let both = or-neither (member order (range_boundaries order r) x) (is_in_one order (range_boundaries order) rs x) h in
      let here : bit (member order (range_boundaries order r) x) ≡ 0 = ap bit both.0 in
      omega (arith, here, held-none x rs both.1)

  held-some : (x : K) (rs : List (RangeSetRange K)) → is_in_one order (range_boundaries order) rs x ≡ true → 0 < held x rs
  held-some x [] h = absurd (true≢false (sym h))
  held-some x (r ∷ rs) h =
      by_truth (member order (range_boundaries order r) x)
      (λ t. let here : bit (member order (range_boundaries order r) x) ≡ 1 = ap bit t in omega (arith, here))
      (λ f.
      omega (arith, held-some x rs (or-second (member order (range_boundaries order r) x) (is_in_one order (range_boundaries order) rs x) f h)))

  same_members : (x : K) (rs ss : List (RangeSetRange K)) → held x rs ≡ held x ss →
      is_in_one order (range_boundaries order) rs x ≡ is_in_one order (range_boundaries order) ss x
  same_members x rs ss e =
      by_truth (is_in_one order (range_boundaries order) rs x)
      (λ t.
      by_truth (is_in_one order (range_boundaries order) ss x) (λ u. t ∙ sym u)
      (λ f. absurd (omega (arith, held-some x rs t, held-none x ss f, e))))
      (λ f.
      by_truth (is_in_one order (range_boundaries order) ss x) (λ u. absurd (omega (arith, held-none x rs f, held-some x ss u, e)))
      (λ g. f ∙ sym g))

  -- the boundaries of ranges are their starts and their ends
  length-starts_and_ends : (rs : List (RangeSetRange K)) →
      length (flat_map (range_boundaries order) rs) ≡ length (starts_of order rs) + length (ends_of order rs)
  length-starts_and_ends [] = refl
  length-starts_and_ends (r ∷ rs) =
      let bs = range_boundaries order r in
      omega (
        arith,
        length-append bs (flat_map (range_boundaries order) rs),
        length-append (take 1 bs) (starts_of order rs),
        length-append (drop 1 bs) (ends_of order rs),
        length-parts bs,
        length-starts_and_ends rs,
      )

  module _ (p : K → Bool) where
    only_starts : (rs : List (RangeSetRange K)) → filter p (ends_of order rs) ≡ [] → filter p (flat_map (range_boundaries order) rs) ≡ filter p (starts_of order rs)
    only_starts [] h = refl
    only_starts (r ∷ rs) h =
        let bs = range_boundaries order r in
        let none = append-neither (filter p (drop 1 bs)) (filter p (ends_of order rs)) (sym (filter-append p (drop 1 bs) (ends_of order rs)) ∙ h) in
        filter-append p bs (flat_map (range_boundaries order) rs)
        ∙ ap₂ (λ us vs. us ++ vs) (filter-parts p bs ∙ ap (λ us. filter p (take 1 bs) ++ us) none.0 ∙ append-nil (filter p (take 1 bs))) (only_starts rs none.1)
        ∙ sym (filter-append p (take 1 bs) (starts_of order rs))

    only_ends : (rs : List (RangeSetRange K)) → filter p (starts_of order rs) ≡ [] → filter p (flat_map (range_boundaries order) rs) ≡ filter p (ends_of order rs)
    only_ends [] h = refl
    only_ends (r ∷ rs) h =
        let bs = range_boundaries order r in
        let none = append-neither (filter p (take 1 bs)) (filter p (starts_of order rs)) (sym (filter-append p (take 1 bs) (starts_of order rs)) ∙ h) in
        filter-append p bs (flat_map (range_boundaries order) rs)
        ∙ ap₂ (λ us vs. us ++ vs) (filter-parts p bs ∙ ap (λ us. us ++ filter p (drop 1 bs)) none.0) (only_ends rs none.1)
        ∙ sym (filter-append p (drop 1 bs) (ends_of order rs))

  -- a range has no boundaries, a start, or a start below an end
  by_shape : (P : List K → Type 0) → P [] → ((s : K) → P (s ∷ [])) → ((s e : K) → order s e ≡ Less → P (s ∷ e ∷ [])) →
      (r : RangeSetRange K) → P (range_boundaries order r)
  by_shape P none from both (RangeFrom r) = from r.start
  by_shape P none from both (Range r) = by_order (order r.start r.end) refl
    where
      by_order : (v : Ordering) → order r.start r.end ≡ v → P (cond (is_lt v) (r.start ∷ r.end ∷ []) [])
      by_order Less e = both r.start r.end e
      by_order Equal e = none
      by_order Greater e = none

module _ {K : Type 0} {order : K → K → Ordering} (o : IsTotalOrder order) where
  not_lt-from_le : (x y : K) → is_le (order x y) ≡ true → is_lt (order y x) ≡ false
  not_lt-from_le x y =
      by_Ordering (order x y) (λ l h. ap is_lt (Greater-from_less o x y l)) (λ e h. ap is_lt (Equal-sym o x y e))
      (λ g h. absurd (true≢false (sym h ∙ ap is_le g)))

  le-from_not_lt : (x y : K) → is_lt (order y x) ≡ false → is_le (order x y) ≡ true
  le-from_not_lt x y =
      by_Ordering (order y x) (λ l h. absurd (true≢false (sym (ap is_lt l) ∙ h))) (λ e h. ap is_le (Equal-sym o y x e)) (λ g h. ap is_le (Less-from_greater o y x g))

  -- ---- as many starts as ends are at or below an element, and one more for each range that has it
  covers : (x : K) (r : RangeSetRange K) →
      count_up_to order (take 1 (range_boundaries order r)) x ≡ count_up_to order (drop 1 (range_boundaries order r)) x + bit (member order (range_boundaries order r) x)
  covers x = by_shape order (λ bs. count_up_to order (take 1 bs) x ≡ count_up_to order (drop 1 bs) x + bit (member order bs x)) nothing from both
    where
      nothing : count_up_to order [] x ≡ count_up_to order [] x + bit (member order [] x)
      nothing = let none : bit (member order [] x) ≡ 0 = ap bit (member-nil order x) in omega (arith, none)

      from : (s : K) → count_up_to order (s ∷ []) x ≡ count_up_to order [] x + bit (member order (s ∷ []) x)
      from s =
          let here : bit (member order (s ∷ []) x) ≡ bit (is_le (order s x)) = ap bit (member-one o s x) in
          omega (arith, up-one order s x, count_up_to-nil order x, here)

      reached : (s e : K) → order s e ≡ Less → is_le (order e x) ≡ true → is_lt (order x e) ≡ false →
          count_up_to order (s ∷ []) x ≡ count_up_to order (e ∷ []) x + bit (member order (s ∷ e ∷ []) x)
      reached s e less le out =
          let ends : count_up_to order (e ∷ []) x ≡ 1 = up-one order e x ∙ ap bit le in
          let starts : count_up_to order (s ∷ []) x ≡ 1 = up-one order s x ∙ ap (λ v. bit (is_le v)) (Less-then_le o s e x less le) in
          let none : bit (member order (s ∷ e ∷ []) x) ≡ 0 =
          ap bit (member-two o s e x less ∙ ap (λ t. is_le (order s x) && t) out ∙ and-false (is_le (order s x))) in
          omega (arith, ends, starts, none)

      both : (s e : K) → order s e ≡ Less → count_up_to order (s ∷ []) x ≡ count_up_to order (e ∷ []) x + bit (member order (s ∷ e ∷ []) x)
      both s e less =
          by_Ordering (order x e)
          (λ l.
          let none : count_up_to order (e ∷ []) x ≡ 0 = up-one order e x ∙ ap (λ v. bit (is_le v)) (Greater-from_less o x e l) in
          let same : bit (member order (s ∷ e ∷ []) x) ≡ bit (is_le (order s x)) =
          ap bit (member-two o s e x less ∙ ap (λ v. is_le (order s x) && is_lt v) l ∙ and-true (is_le (order s x))) in
          omega (arith, none, same, up-one order s x))
          (λ q. reached s e less (ap is_le (Equal-sym o x e q)) (ap is_lt q))
          (λ g. reached s e less (ap is_le (Less-from_greater o x e g)) (ap is_lt g))

  covered : (x : K) (rs : List (RangeSetRange K)) → count_up_to order (starts_of order rs) x ≡ count_up_to order (ends_of order rs) x + held order x rs
  covered x [] = omega arith
  covered x (r ∷ rs) =
      let bs = range_boundaries order r in
      omega (
        arith,
        covers x r,
        covered x rs,
        count_up_to-append order (take 1 bs) (starts_of order rs) x,
        count_up_to-append order (drop 1 bs) (ends_of order rs) x,
      )

  -- ---- an end at or below an element has a start below it
  ranks : (x : K) (r : RangeSetRange K) → count_up_to order (drop 1 (range_boundaries order r)) x ≤ count_below order (take 1 (range_boundaries order r)) x
  ranks x = by_shape order (λ bs. count_up_to order (drop 1 bs) x ≤ count_below order (take 1 bs) x) nothing (λ s. omega (arith, count_up_to-nil order x)) both
    where
      nothing : count_up_to order [] x ≤ count_below order [] x
      nothing = omega (arith, count_up_to-nil order x)

      both : (s e : K) → order s e ≡ Less → count_up_to order (e ∷ []) x ≤ count_below order (s ∷ []) x
      both s e less =
          is_le-cases (order e x)
          (λ t.
          let ends : count_up_to order (e ∷ []) x ≡ 1 = up-one order e x ∙ ap bit t in
          let starts : count_below order (s ∷ []) x ≡ 1 = below-one order s x ∙ ap (λ v. bit (is_lt v)) (Less-then_le o s e x less t) in
          omega (arith, ends, starts))
          (λ g. let none : count_up_to order (e ∷ []) x ≡ 0 = up-one order e x ∙ ap (λ v. bit (is_le v)) g in omega (arith, none))

  ranked : (x : K) (rs : List (RangeSetRange K)) → count_up_to order (ends_of order rs) x ≤ count_below order (starts_of order rs) x
  ranked x [] = omega (arith, count_up_to-nil order x)
  ranked x (r ∷ rs) =
      let bs = range_boundaries order r in
      omega (
        arith,
        ranks x r,
        ranked x rs,
        below-append order (take 1 bs) (starts_of order rs) x,
        count_up_to-append order (drop 1 bs) (ends_of order rs) x,
      )

  -- ---- what is sorted rises, and makes pairs of which each start is below its end
  rises : (xs : List K) → IsSorted order xs → Rises order xs
  rises [] up = tt
  rises (x ∷ xs) up = (
    λ j d within.
        le-from_not_lt x (get_or xs j d)
        (sorted_far (λ y z. is_lt (order y z)) (ranks_by o (λ y. y)) (x ∷ xs) up 0 (suc j) d (omega arith) (omega (arith, within))),
    rises xs
        (λ k d low within.
        let one : suc k + 1 ≡ suc (k + 1) = omega arith in
        subst (λ n. is_lt (order (get_or (x ∷ xs) n d) (get_or xs k d)) ≡ false) one (up (suc k) d (omega arith) (omega (arith, within)))),
  )

  starts_below : (s e : K) (ss es : List K) → All (λ y. is_le (order s y) ≡ true) ss →
      count_up_to order (e ∷ es) e ≤ count_below order (s ∷ ss) e → order s e ≡ Less
  starts_below s e ss es low h = by_Ordering (order s e) (λ l. l) (λ q. no (ap is_le (Equal-sym o s e q))) (λ g. no (ap is_le (Less-from_greater o s e g)))
    where
      no : is_le (order e s) ≡ true → order s e ≡ Less
      no le =
          absurd
          (omega (
            arith,
            h,
            count_up_to-cons_in order e es e (ap is_le (Equal-self o e)),
            below_none o e (s ∷ ss)
                (All-cons (λ z. is_lt (order z e) ≡ false) s ss (not_lt-from_le e s le)
                (All-weaker (λ y. is_le (order s y) ≡ true) (λ z. is_lt (order z e) ≡ false) (λ y up. not_lt-from_le e y (le-trans o e s y le up)) ss low)),
          ))

  paired : (ss es : List K) → Rises order ss → Rises order es → ((x : K) → count_up_to order es x ≤ count_below order ss x) →
      (starts_of order (pairs_of ss es) ≡ ss) × (ends_of order (pairs_of ss es) ≡ es)
  paired [] [] p q h = (refl, refl)
  paired [] (e ∷ es) p q h = absurd (omega (arith, h e, count_below-nil order e, count_up_to-cons_in order e es e (ap is_le (Equal-self o e))))
  paired (s ∷ ss) [] p q h =
      let rest = paired ss [] p.1 q (λ x. omega (arith, count_up_to-nil order x)) in
      (ap (λ l. s ∷ l) rest.0, rest.1)
  paired (s ∷ ss) (e ∷ es) p q h =
      let less : order s e ≡ Less = starts_below s e ss es p.0 (h e) in
      let rest = paired ss es p.1 q.1 (later less) in (
        ap (λ bs. take 1 bs ++ starts_of order (pairs_of ss es)) (range_is o s e less) ∙ ap (λ l. s ∷ l) rest.0,
        ap (λ bs. drop 1 bs ++ ends_of order (pairs_of ss es)) (range_is o s e less) ∙ ap (λ l. e ∷ l) rest.1,
      )
    where
      later : order s e ≡ Less → (x : K) → count_up_to order es x ≤ count_below order ss x
      later less x =
          is_le-cases (order e x)
          (λ t.
          let ends : count_up_to order (e ∷ es) x ≡ suc (count_up_to order es x) = count_up_to-cons_in order e es x t in
          let starts : count_below order (s ∷ ss) x ≡ 1 + count_below order ss x =
          below-more order s ss x ∙ ap (λ v. bit (is_lt v) + count_below order ss x) (Less-then_le o s e x less t) in
          omega (arith, h x, ends, starts))
          (λ g.
          let none : count_up_to order es x ≡ 0 =
          count_up_to-none order x es
          (All-weaker (λ y. is_le (order e y) ≡ true) (λ y. order y x ≡ Greater)
          (λ y le. Greater-from_less o x y (Less-then_le o x e y (Less-from_greater o e x g) le)) es q.0) in
          omega (arith, none))

  -- ---- an item of the union equals no start, or it equals no end
  module _ (v : K) where
    abbrev equals : K → Bool
    equals y = is_eq (order v y)

    unequal : (y : K) → is_eq (order v y) ≡ false → filter equals (y ∷ []) ≡ []
    unequal y h = ap (λ t. cond t (y ∷ []) []) h

    one_start : (r : RangeSetRange K) → (filter equals (take 1 (range_boundaries order r)) ≡ []) ⊎ (member order (range_boundaries order r) v ≡ true)
    one_start = by_shape order (λ bs. (filter equals (take 1 bs) ≡ []) ⊎ (member order bs v ≡ true)) (inl refl) from both
      where
        from : (s : K) → (filter equals (s ∷ []) ≡ []) ⊎ (member order (s ∷ []) v ≡ true)
        from s =
            by_Ordering (order v s) (λ l. inl (unequal s (ap is_eq l))) (λ e. inr (member-one o s v ∙ ap is_le (Equal-sym o v s e))) (λ g. inl (unequal s (ap is_eq g)))

        both : (s e : K) → order s e ≡ Less → (filter equals (s ∷ []) ≡ []) ⊎ (member order (s ∷ e ∷ []) v ≡ true)
        both s e less =
            by_Ordering (order v s) (λ l. inl (unequal s (ap is_eq l)))
            (λ q. inr (member-two o s e v less ∙ ap₂ (λ t u. t && u) (ap is_le (Equal-sym o v s q)) (ap is_lt (Less-from_equal o v s e q less))))
            (λ g. inl (unequal s (ap is_eq g)))

    one_end : (r : RangeSetRange K) → (filter equals (drop 1 (range_boundaries order r)) ≡ []) ⊎ (just_below o (range_boundaries order r) v ≡ true)
    one_end = by_shape order (λ bs. (filter equals (drop 1 bs) ≡ []) ⊎ (just_below o bs v ≡ true)) (inl refl) (λ s. inl refl) both
      where
        both : (s e : K) → order s e ≡ Less → (filter equals (e ∷ []) ≡ []) ⊎ (just_below o (s ∷ e ∷ []) v ≡ true)
        both s e less =
            by_Ordering (order v e) (λ l. inl (unequal e (ap is_eq l)))
            (λ q.
            let back : order e v ≡ Equal = Equal-sym o v e q in
            let last : count_below order (e ∷ []) v ≡ 0 = below-one order e v ∙ ap (λ w. bit (is_lt w)) back in
            let first : count_below order (s ∷ e ∷ []) v ≡ 1 + count_below order (e ∷ []) v =
            below-more order s (e ∷ []) v ∙ ap (λ w. bit (is_lt w) + count_below order (e ∷ []) v) (Less-then_equal o s e v less back) in
            let one : count_below order (s ∷ e ∷ []) v ≡ 1 = omega (arith, first, last) in
            inr (ap is_odd one))
            (λ g. inl (unequal e (ap is_eq g)))

    a_start : (rs : List (RangeSetRange K)) → (filter equals (starts_of order rs) ≡ []) ⊎ (is_in_one order (range_boundaries order) rs v ≡ true)
    a_start [] = inl refl
    a_start (r ∷ rs) =
        ⊎_elim
        (λ none.
        ⊎_elim
        (λ rest.
        inl (filter-append equals (take 1 (range_boundaries order r)) (starts_of order rs) ∙ ap₂ (λ us vs. us ++ vs) none rest))
        (λ m. inr (or-right (member order (range_boundaries order r) v) (is_in_one order (range_boundaries order) rs v) m))
        (a_start rs))
        (λ m. inr (or-left (member order (range_boundaries order r) v) (is_in_one order (range_boundaries order) rs v) m))
        (one_start r)

    -- the list has every element of the ranges
    abbrev HasAll : List (RangeSetRange K) → List K → Type 0
    HasAll rs out = (x : K) → is_in_one order (range_boundaries order) rs x ≡ true → member order out x ≡ true

    an_end : (out : List K) (rs : List (RangeSetRange K)) → HasAll rs out → (filter equals (ends_of order rs) ≡ []) ⊎ (just_below o out v ≡ true)
    an_end out [] all = inl refl
    an_end out (r ∷ rs) all =
        ⊎_elim
        (λ none.
        ⊎_elim
        (λ rest. inl (filter-append equals (drop 1 (range_boundaries order r)) (ends_of order rs) ∙ ap₂ (λ us vs. us ++ vs) none rest))
        (λ below. inr below)
        (an_end out rs (λ x m. all x (or-right (member order (range_boundaries order r) x) (is_in_one order (range_boundaries order) rs x) m))))
        (λ below.
        inr
        (below_kept o (range_boundaries order r) out
        (λ x m. all x (or-left (member order (range_boundaries order r) x) (is_in_one order (range_boundaries order) rs x) m)) v below))
        (one_end r)

    one_kind : (rs : List (RangeSetRange K)) (out : List K) → IsUnionOf order (range_boundaries order) rs out → Contains out v →
        (filter equals (starts_of order rs) ≡ []) ⊎ (filter equals (ends_of order rs) ≡ [])
    one_kind rs out union (i, within, is) =
        ⊎_elim (λ none. inl none)
        (λ m.
        ⊎_elim (λ none. inr none)
        (λ below.
        absurd
        (not_own_opposite true
        (sym (union.members v ∙ m)
        ∙ changes_at o out i v union.sorted within (λ d. ap (λ y. order y v) (get_or_default out i d v within ∙ is) ∙ Equal-self o v)
        ∙ ap not below)))
        (an_end out rs (λ x h. union.members x ∙ h)))
        (a_start rs)

  stable_filter : (xs ys : List K) → IsStable order xs ys → (v : K) → filter (equals v) ys ≡ filter (equals v) xs
  stable_filter xs ys stable v =
      sym (filter_agree (ties (λ y z. is_lt (order y z)) v) (equals v) (ties-is_eq o v) ys)
      ∙ stable v
      ∙ filter_agree (ties (λ y z. is_lt (order y z)) v) (equals v) (ties-is_eq o v) xs

  -- ---- the union of the pairs is that of the ranges
  pub GivesOwn-sorted : (room : ℕ) (rs : List (RangeSetRange K)) (ss es out : List K) →
      IsPermutation (starts_of order rs) ss → IsSorted order ss → IsStable order (starts_of order rs) ss →
      IsPermutation (ends_of order rs) es → IsSorted order es → IsStable order (ends_of order rs) es →
      GivesOwn order room (pairs_of ss es) (Ok out) → GivesOwn order room rs (Ok out)
  GivesOwn-sorted room rs ss es out ps us ts pe ue te given = record {
    means = record { sorted = given.means.sorted; members = λ x. given.means.members x ∙ same_members order x ps_ rs (same_held x) };
    first_own_item = λ k d within.
        let x : K = get_or out k d in
        let (z, first, is) = given.first_own_item k d within in
        (z, ap (λ us. slice_get us 0) (sym (same_filter x (k, within, get_or_default out k x d within))) ∙ first, is);
    at_most = omega (
      arith,
      given.at_most,
      length-starts_and_ends order ps_,
      length-starts_and_ends order rs,
      ap length are.0,
      ap length are.1,
      length_permutation (starts_of order rs) ss ps,
      length_permutation (ends_of order rs) es pe,
    );
    succeeds = λ _ _. refl;
  }
    where
      ps_ : List (RangeSetRange K)
      ps_ = pairs_of ss es

      are : (starts_of order ps_ ≡ ss) × (ends_of order ps_ ≡ es)
      are =
          paired ss es (rises ss us) (rises es ue)
          (λ x.
          omega (arith, ranked x rs, up-permutation order x (ends_of order rs) es pe, below-permutation order x (starts_of order rs) ss ps))

      same_held : (x : K) → held order x ps_ ≡ held order x rs
      same_held x =
          let starts : count_up_to order (starts_of order ps_) x ≡ count_up_to order (starts_of order rs) x =
          ap (λ l. count_up_to order l x) are.0 ∙ up-permutation order x (starts_of order rs) ss ps in
          let ends : count_up_to order (ends_of order ps_) x ≡ count_up_to order (ends_of order rs) x =
          ap (λ l. count_up_to order l x) are.1 ∙ up-permutation order x (ends_of order rs) es pe in
          omega (arith, covered x ps_, covered x rs, starts, ends)

      starts_same : (v : K) → filter (equals v) (starts_of order ps_) ≡ filter (equals v) (starts_of order rs)
      starts_same v = ap (filter (equals v)) are.0 ∙ stable_filter (starts_of order rs) ss ts v

      ends_same : (v : K) → filter (equals v) (ends_of order ps_) ≡ filter (equals v) (ends_of order rs)
      ends_same v = ap (filter (equals v)) are.1 ∙ stable_filter (ends_of order rs) es te v

      same_filter : (v : K) → Contains out v → filter (equals v) (flat_map (range_boundaries order) ps_) ≡ filter (equals v) (flat_map (range_boundaries order) rs)
      same_filter v inside =
          ⊎_elim
          (λ none.
          only_ends order (equals v) ps_ none ∙ ends_same v ∙ sym (only_ends order (equals v) rs (sym (starts_same v) ∙ none)))
          (λ none.
          only_starts order (equals v) ps_ none ∙ starts_same v ∙ sym (only_starts order (equals v) rs (sym (ends_same v) ∙ none)))
          (one_kind v ps_ out given.means inside)

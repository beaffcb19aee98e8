-- Depths: counted by the starts and the ends of ranges, and swept from these in order.
use Rattle.std.proofs.Common.{◌≡◌, ◌⊎◌, ⊎_elim, ℕ, zero, suc, ◌+◌, ◌-◌, ◌<◌, ◌≤◌, ◌&&◌, Bool, true, false, cond, Option, None, Some, List, [], ◌∷◌, ◌++◌, length, get_or, nat_eq, refl, sym, ap, ap₂, ◌∙◌, subst, arith, All, take, true≢false}
use Rattle.std.proofs.lemmas.List.{get_or_default}
use Rattle.std.proofs.lemmas.Cmp.{nat_eq_equiv}
use Rattle.std.proofs.lemmas.List.Elements.{All-append}
use Rattle.std.proofs.lemmas.List.Sorted.{sorted_far, ranks_by, sum_by-IsPermutation}
use Rattle.std.proofs.lemmas.List.Sums.{length-filter, sum_by_more}
use Rattle.std.specs.Cmp.{IsTotalOrder}
use Rattle.std.specs.List.{AllWithin, HoldsAt}
use Rattle.std.specs.List.Sorted.{IsPermutation, IsSorted}
use Rattle.std.specs.Option.{option_eq}
use Rattle.std.specs.Ordering.{is_le, is_lt}
use Rattle.std.specs.declared.cmp.Ordering.{Ordering}
use Rattle.std.specs.declared.ops.Range.{Range}
use Rattle.std.specs.declared.cmp.Ordering.TheVariants.{Less, Equal, Greater}
use Rattle.range_merge.specs.Boundaries.{count_up_to}
use Rattle.range_merge.proofs.Members.{by_Ordering, count_up_to-nil, count_up_to-cons}
use Rattle.range_merge.proofs.Orders.{Equal-self, Equal-sym, Greater-from_less, Less-from_equal, Less-from_greater, Less-then_equal}
use Rattle.range_collections.proofs.CountUpTo.{count_up_to-cons_in, count_up_to-cons_out}
use Rattle.range_collections.proofs.Shortest.{count_up_to-append, count_up_to-le_length, is_le-cases, le-from_greater, le-trans, Less-then_le}
use Rattle.range_map.specs.Steps.{Steps, value_at, AreAlike, IsCanonical}
use Rattle.range_map.specs.Changed.{is_in_range}
use Rattle.range_map.specs.Combining.{IsPut}
use Rattle.range_map.specs.Depth.{depth_at, number_or_none, AreDepths, IsDifference}
use Rattle.range_map.proofs.Differing.{one}
use Rattle.range_map.proofs.FromStart.{All-one}
use Rattle.range_map.proofs.MadeUpTo.{IsCanonical-nothing, IsCanonical-put, value_at-before_put, value_at-put}

module _ {K : Type 0} (order : K → K → Ordering) where
  -- a count is kept by a permutation
  pub count_up_to-permutation : (xs ys : List K) (x : K) → IsPermutation xs ys → count_up_to order ys x ≡ count_up_to order xs x
  unfolding count_up_to
  count_up_to-permutation xs ys x p =
      let test = λ (y : K). is_le (order y x) in
      length-filter test ys ∙ sum_by-IsPermutation (λ y. cond (test y) 1 0) xs ys p ∙ sym (length-filter test xs)

  pub count_up_to-push : (xs : List K) (y x : K) → count_up_to order (xs ++ y ∷ []) x ≡ count_up_to order xs x + cond (is_le (order y x)) 1 0
  count_up_to-push xs y x =
      count_up_to-append order xs (y ∷ []) x
      ∙ ap (λ n. count_up_to order xs x + n) (count_up_to-cons order y [] x ∙ ap (λ n. cond (is_le (order y x)) (suc n) n) (count_up_to-nil order x))

  -- the first n items are at or below x
  count-at_least : (xs : List K) (n : ℕ) (x : K) → n ≤ length xs → AllWithin (λ y. is_le (order y x) ≡ true) xs 0 n → n ≤ count_up_to order xs x
  count-at_least [] n x within h = omega (arith, within)
  count-at_least (y ∷ ys) zero x within h = omega arith
  count-at_least (y ∷ ys) (suc n) x within h =
      omega (
        arith,
        count_up_to-cons_in order y ys x (h 0 y (omega arith) (omega arith)),
        count-at_least ys n x (omega (arith, within)) (λ k d low high. h (suc k) d (omega arith) (omega (arith, high))),
      )

  -- the items from place n on are above x
  count-at_most : (xs : List K) (n : ℕ) (x : K) → AllWithin (λ y. order y x ≡ Greater) xs n (length xs) → count_up_to order xs x ≤ n
  count-at_most [] n x h = omega (arith, count_up_to-nil order x)
  count-at_most (y ∷ ys) zero x h =
      omega (
        arith,
        count_up_to-cons_out order y ys x (ap is_le (h 0 y (omega arith) (omega arith))),
        count-at_most ys zero x (λ k d low high. h (suc k) d (omega arith) (omega (arith, high))),
      )
  count-at_most (y ∷ ys) (suc n) x h =
      let rest = count-at_most ys n x (λ k d low high. h (suc k) d (omega (arith, low)) (omega (arith, high))) in
      is_le-cases (order y x)
      (λ t. omega (arith, rest, count_up_to-cons_in order y ys x t))
      (λ g. omega (arith, rest, count_up_to-cons_out order y ys x (ap is_le g)))

  -- the ranges up to the next one
  pub depth-taken : (rs : List (Range K)) (i : ℕ) (r : Range K) (x : K) → i < length rs → r ≡ get_or rs i r →
      depth_at order (take (i + 1) rs) x ≡ depth_at order (take i rs) x + cond (is_in_range order r.start (Some r.end) x) 1 0
  depth-taken rs i r x within is =
      sum_by_more (λ (s : Range K). cond (is_in_range order s.start (Some s.end) x) 1 0) rs i r within
      ∙ ap (λ (s : Range K). depth_at order (take i rs) x + cond (is_in_range order s.start (Some s.end) x) 1 0) (sym is)

  module _ (o : IsTotalOrder order) where
    -- no fewer items are at or below what isn't below
    count-rises : (x y : K) (zs : List K) → is_le (order x y) ≡ true → count_up_to order zs x ≤ count_up_to order zs y
    count-rises x y [] l = omega (arith, count_up_to-nil order x, count_up_to-nil order y)
    count-rises x y (z ∷ zs) l =
        let rest = count-rises x y zs l in
        is_le-cases (order z x)
        (λ t. omega (arith, rest, count_up_to-cons_in order z zs x t, count_up_to-cons_in order z zs y (le-trans o z x y t l)))
        (λ g.
        let out = count_up_to-cons_out order z zs x (ap is_le g) in
        is_le-cases (order z y)
        (λ t. omega (arith, rest, out, count_up_to-cons_in order z zs y t))
        (λ h. omega (arith, rest, out, count_up_to-cons_out order z zs y (ap is_le h))))

    le-from_not_lt : (v : Ordering) (x y : K) → order y x ≡ v → is_lt v ≡ false → is_le (order x y) ≡ true
    le-from_not_lt Less x y e h = absurd (true≢false h)
    le-from_not_lt Equal x y e h = ap is_le (Equal-sym o y x e)
    le-from_not_lt Greater x y e h = ap is_le (Less-from_greater o y x e)

    le-from_sorted : (xs : List K) → IsSorted order xs → (i j : ℕ) (d : K) → i ≤ j → j < length xs → is_le (order (get_or xs i d) (get_or xs j d)) ≡ true
    le-from_sorted xs up i j d low high =
        le-from_not_lt (order (get_or xs j d) (get_or xs i d)) (get_or xs i d) (get_or xs j d) refl
        (sorted_far (λ y z. is_lt (order y z)) (ranks_by o (λ y. y)) xs up i j d low high)

    -- the count where the item at a place is at or below x, or above it
    pub count-reached : (xs : List K) → IsSorted order xs → (i : ℕ) (d x : K) → i < length xs → is_le (order (get_or xs i d) x) ≡ true → i + 1 ≤ count_up_to order xs x
    count-reached xs up i d x within h =
        count-at_least xs (i + 1) x (omega (arith, within))
        (λ k e low high.
        subst (λ y. is_le (order y x) ≡ true) (get_or_default xs k d e (omega (arith, high, within)))
        (le-trans o (get_or xs k d) (get_or xs i d) x (le-from_sorted xs up k i d (omega (arith, high)) within) h))

    pub count-not_reached : (xs : List K) → IsSorted order xs → (i : ℕ) (d x : K) → order (get_or xs i d) x ≡ Greater → count_up_to order xs x ≤ i
    count-not_reached xs up i d x g =
        count-at_most xs i x
        (λ k e low high.
        subst (λ y. order y x ≡ Greater) (get_or_default xs k d e high)
        (Greater-from_less o x (get_or xs k d) (Less-then_le o x (get_or xs i d) (get_or xs k d) (Less-from_greater o (get_or xs i d) x g) (le-from_sorted xs up i k d low high))))

    -- a range that has keys adds one to the depth of those, and its ends to the counts
    pub depth-added : (s e s2 e2 x : K) (n a b : ℕ) → order s e ≡ Less → order s s2 ≡ Equal → order e e2 ≡ Equal → n + b ≡ a →
        n + cond (is_in_range order s (Some e) x) 1 0 + (b + cond (is_le (order e2 x)) 1 0) ≡ a + cond (is_le (order s2 x)) 1 0
    depth-added s e s2 e2 x n a b less es ee same =
        rw (sym (o.congr s s2 x es), sym (o.congr e e2 x ee))
        (by_Ordering (order x e)
        (λ l.
        let ends : ◌≡◌ {A = ℕ} (cond (is_le (order e x)) 1 0) 0 = ap (λ v. cond (is_le v) 1 0) (Greater-from_less o x e l) in
        let here : ◌≡◌ {A = ℕ} (cond (is_in_range order s (Some e) x) 1 0) (cond (is_le (order s x)) 1 0) = ap (λ v. cond (is_le (order s x) && is_lt v) 1 0) l ∙ ap (λ t. cond t 1 0) (and-true (is_le (order s x))) in
        omega (arith, ends, here, same))
        (λ q. out (order x e) refl (ap is_lt q) (ap is_le (Equal-sym o x e q)))
        (λ g. out (order x e) refl (ap is_lt g) (ap is_le (Less-from_greater o x e g))))
      where
        and-true : (t : Bool) → (t && true) ≡ t
        and-true true = refl
        and-true false = refl

        and-false : (t : Bool) → (t && false) ≡ false
        and-false true = refl
        and-false false = refl

        out : (v : Ordering) → order x e ≡ v → is_lt (order x e) ≡ false → is_le (order e x) ≡ true →
            n + cond (is_in_range order s (Some e) x) 1 0 + (b + cond (is_le (order e x)) 1 0) ≡ a + cond (is_le (order s x)) 1 0
        out v is f le =
            let ends : ◌≡◌ {A = ℕ} (cond (is_le (order e x)) 1 0) 1 = ap (λ t. cond t 1 0) le in
            let starts : ◌≡◌ {A = ℕ} (cond (is_le (order s x)) 1 0) 1 = ap (λ v. cond (is_le v) 1 0) (Less-then_le o s e x less le) in
            let here : ◌≡◌ {A = ℕ} (cond (is_in_range order s (Some e) x) 1 0) 0 = ap (λ t. cond (is_le (order s x) && t) 1 0) f ∙ ap (λ t. cond t 1 0) (and-false (is_le (order s x))) in
            omega (arith, ends, starts, here, same)

    -- a range whose start isn't below its end adds nothing
    pub depth-kept : (s e x : K) (v : Ordering) → order s e ≡ v → is_lt v ≡ false → is_in_range order s (Some e) x ≡ false
    depth-kept s e x v is h =
        is_le-cases (order s x)
        (λ t.
        let ends : is_lt (order x e) ≡ false = not_lt (le-trans o e s x (le-from_not_lt v e s is h) t) in
        ap₂ (λ p q. p && q) t ends)
        (λ g. ap (λ v. is_le v && is_lt (order x e)) g)
      where
        not_lt : is_le (order e x) ≡ true → is_lt (order x e) ≡ false
        not_lt t =
            by_Ordering (order e x) (λ l. ap is_lt (Greater-from_less o e x l)) (λ q. ap is_lt (Equal-sym o e x q))
            (λ g. absurd (true≢false (sym t ∙ ap is_le g)))

  module _ (starts ends : List K) where
    -- x has as many starts and ends at or below it as are read, or more, and the made keys are below it
    pub record IsAhead (i j : ℕ) (made : Steps K ℕ) (x : K) : Type 0 where
      pub starts_read : i ≤ count_up_to order starts x
      pub ends_read : j ≤ count_up_to order ends x
      pub below : All (λ k. order k x ≡ Less) made.keys

    -- made has the difference of the counts where these are of read items alone; all unread items
    -- are ahead
    pub record IsSweptTo (i j : ℕ) (made : Steps K ℕ) : Type 0 where
      pub starts_within : i ≤ length starts
      pub ends_within : j ≤ length ends
      pub fewer : j ≤ i
      pub canonical : IsCanonical order nat_eq made
      pub values : (x : K) → count_up_to order starts x ≤ i → count_up_to order ends x ≤ j →
          AreAlike nat_eq (value_at order made x) (number_or_none (count_up_to order starts x - count_up_to order ends x))
      pub starts_ahead : AllWithin (IsAhead i j made) starts i (length starts)
      pub ends_ahead : AllWithin (IsAhead i j made) ends j (length ends)

    module _ (o : IsTotalOrder order) where
      pub IsSweptTo-nothing : (made : Steps K ℕ) → made.keys ≡ [] → made.options ≡ [] → ((x : K) → value_at order made x ≡ None) → IsSweptTo 0 0 made
      IsSweptTo-nothing made keys options none = record {
        starts_within = omega arith;
        ends_within = omega arith;
        fewer = omega arith;
        canonical = IsCanonical-nothing order o nat_eq nat_eq_equiv made keys options;
        values = λ x s e.
            let zeros : count_up_to order starts x - count_up_to order ends x ≡ 0 = omega (arith, s, e) in
            ap₂ (λ p n. option_eq nat_eq p (number_or_none n)) (none x) zeros;
        starts_ahead = λ n d low high. ahead (get_or starts n d);
        ends_ahead = λ n d low high. ahead (get_or ends n d);
      }
        where
          ahead : (x : K) → IsAhead 0 0 made x
          ahead x = record {
            starts_read = omega arith;
            ends_read = omega arith;
            below = rw keys (λ n d within. absurd (omega (arith, within)));
          }

      module _ (starts_up : IsSorted order starts) (ends_up : IsSorted order ends) (few : (x : K) → count_up_to order ends x ≤ count_up_to order starts x)
          (i j : ℕ) (old : Steps K ℕ) (swept : IsSweptTo i j old) (key end : K) (more : j < length ends) (is : end ≡ get_or ends j end)
          (from : (key ≡ end) ⊎ (i < length starts) × HoldsAt (λ y. key ≡ y) starts i) where
        pub first_ahead : IsAhead i j old key
        first_ahead =
            ⊎_elim
            (λ same. subst (IsAhead i j old) (sym (same ∙ is)) (swept.ends_ahead j end (omega arith) more))
            (λ other. subst (IsAhead i j old) (sym (other.1 key)) (swept.starts_ahead i key (omega arith) other.0))
            from

        self_le : (y : K) → key ≡ y → is_le (order y key) ≡ true
        self_le y e = subst (λ z. is_le (order z key) ≡ true) e (ap is_le (Equal-self o key))

        -- at least one item more is read
        pub first_read : i + j < count_up_to order starts key + count_up_to order ends key
        first_read =
            ⊎_elim
            (λ same. omega (arith, first_ahead.starts_read, count-reached o ends ends_up j end key more (self_le (get_or ends j end) (same ∙ is))))
            (λ other. omega (arith, first_ahead.ends_read, count-reached o starts starts_up i key key other.0 (self_le (get_or starts i key) (other.1 key))))
            from

        module _ (below_end : is_le (order key end) ≡ true) (below_start : (d : K) → i < length starts → is_le (order key (get_or starts i d)) ≡ true)
            (new : Steps K ℕ) (p : Option ℕ) (put : IsPut order nat_eq old key p new)
            (option : p ≡ number_or_none (count_up_to order starts key - count_up_to order ends key)) where
          below_put : All (λ y. order y put.key_put ≡ Less) old.keys
          below_put n d within = Less-then_equal o (get_or old.keys n d) key put.key_put (first_ahead.below n d within) put.equal

          low_starts : AllWithin (λ y. is_le (order key y) ≡ true) starts i (length starts)
          low_starts n d low high =
              le-trans o key (get_or starts i d) (get_or starts n d) (below_start d (omega (arith, low, high))) (le-from_sorted o starts starts_up i n d low high)

          low_ends : AllWithin (λ y. is_le (order key y) ≡ true) ends j (length ends)
          low_ends n d low high =
              le-trans o key (get_or ends j d) (get_or ends n d)
              (subst (λ y. is_le (order key y) ≡ true) (is ∙ get_or_default ends j end d more) below_end) (le-from_sorted o ends ends_up j n d low high)

          ahead : (x : K) → order x key ≡ Greater → IsAhead (count_up_to order starts key) (count_up_to order ends key) new x
          ahead x g =
              let l = le-from_greater o x key g in
              record {
                starts_read = count-rises o key x starts l;
                ends_read = count-rises o key x ends l;
                below = rw put.keys_are
                    (All-append (λ k. order k x ≡ Less) old.keys (one put.is_put put.key_put)
                    (λ n d within. Less-then_le o (get_or old.keys n d) key x (first_ahead.below n d within) l)
                    (All-one (λ k. order k x ≡ Less) put.is_put put.key_put
                    (Less-from_equal o put.key_put key x (Equal-sym o key put.key_put put.equal) (Less-from_greater o x key g))));
              }

          unread : (xs : List K) → IsSorted order xs → AllWithin (IsAhead (count_up_to order starts key) (count_up_to order ends key) new) xs (count_up_to order xs key) (length xs)
          unread xs up n d low high =
              is_le-cases (order (get_or xs n d) key)
              (λ t. absurd (omega (arith, low, count-reached o xs up n d key high t)))
              (ahead (get_or xs n d))

          few_of : (xs : List K) (m : ℕ) (x : K) → AllWithin (λ y. is_le (order key y) ≡ true) xs m (length xs) → order key x ≡ Greater → count_up_to order xs x ≤ m
          few_of xs m x low g =
              count-at_most xs m x
              (λ n d least most. Greater-from_less o x (get_or xs n d) (Less-then_le o x key (get_or xs n d) (Less-from_greater o key x g) (low n d least most)))

          pub IsSweptTo-step : IsSweptTo (count_up_to order starts key) (count_up_to order ends key) new
          IsSweptTo-step = record {
            starts_within = count_up_to-le_length order key starts;
            ends_within = count_up_to-le_length order key ends;
            fewer = few key;
            canonical = IsCanonical-put order o nat_eq nat_eq_equiv old new key p swept.canonical put below_put;
            values = λ x s e.
                is_le-cases (order put.key_put x)
                (λ h.
                let on : is_le (order key x) ≡ true = ap is_le (o.congr key put.key_put x put.equal) ∙ h in
                let same_starts : count_up_to order starts x ≡ count_up_to order starts key = omega (arith, s, count-rises o key x starts on) in
                let same_ends : count_up_to order ends x ≡ count_up_to order ends key = omega (arith, e, count-rises o key x ends on) in
                ap (option_eq nat_eq (value_at order new x)) (ap₂ (λ n m. number_or_none (n - m)) same_starts same_ends ∙ sym option)
                ∙ value_at-put order o nat_eq nat_eq_equiv old new key p swept.canonical put below_put x h)
                (λ g.
                let above : order key x ≡ Greater = o.congr key put.key_put x put.equal ∙ g in
                ap (λ q. option_eq nat_eq q (number_or_none (count_up_to order starts x - count_up_to order ends x)))
                (value_at-before_put order o nat_eq nat_eq_equiv old new key p swept.canonical put below_put x g)
                ∙ swept.values x (few_of starts i x low_starts above) (few_of ends j x low_ends above));
            starts_ahead = unread starts starts_up;
            ends_ahead = unread ends ends_up;
          }

    -- where all ends are read, so are all starts
    pub IsDifference-swept : (i j : ℕ) (made : Steps K ℕ) → length starts ≡ length ends → length ends ≤ j → IsSweptTo i j made → IsDifference order starts ends made
    IsDifference-swept i j made same all swept x =
        swept.values x (omega (arith, count_up_to-le_length order x starts, same, all, swept.fewer)) (omega (arith, count_up_to-le_length order x ends, all))

  -- the difference of the counts is the depth
  pub AreDepths-difference : (ranges : List (Range K)) (starts ends : List K) (map : Steps K ℕ) → ((x : K) → depth_at order ranges x + count_up_to order ends x ≡ count_up_to order starts x) →
      IsDifference order starts ends map → AreDepths order ranges map
  AreDepths-difference ranges starts ends map sum made x =
      let same : depth_at order ranges x ≡ count_up_to order starts x - count_up_to order ends x = omega (arith, sum x) in
      ap (λ n. option_eq nat_eq (value_at order map x) (number_or_none n)) same ∙ made x

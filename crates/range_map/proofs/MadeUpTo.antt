-- One more step put at the end of what an operation makes of two maps.
use Rattle.std.proofs.Common.{◌≡◌, ℕ, ◌+◌, ◌<◌, ◌≤◌, inl, inr, Bool, true, false, not, Option, None, List, [], ◌∷◌, ◌++◌, length, get_or, refl, sym, ap, ap₂, ◌∙◌, All, arith, length-append}
use Rattle.std.proofs.lemmas.Bool.{cases_lt}
use Rattle.std.proofs.lemmas.List.{get_or_default}
use Rattle.std.proofs.lemmas.List.Elements.{All-head, All-tail, All-append}
use Rattle.std.specs.List.{AllWithin}
use Rattle.std.specs.Option.{option_eq}
use Rattle.std.specs.Cmp.{IsTotalOrder, IsEquivalence}
use Rattle.std.specs.Cmp.Lexicographic.{options_equiv}
use Rattle.std.specs.declared.cmp.Ordering.{Ordering}
use Rattle.std.specs.declared.cmp.Ordering.TheVariants.{Less, Equal, Greater}
use Rattle.std.specs.Ordering.{is_le}
use Rattle.range_merge.specs.Boundaries.{IsAscending, count_up_to}
use Rattle.range_merge.proofs.Orders.{Less-then_equal, Less-from_equal, Equal-sym}
use Rattle.range_collections.proofs.CountUpTo.{count_up_to-split}
use Rattle.range_collections.proofs.Insertion.{IsAscending-append}
use Rattle.range_collections.proofs.Ascending.{IsAscending-nil}
use Rattle.range_collections.proofs.Shortest.{count_up_to-none, is_le-cases, le-trans, Less-from_le, Less-then_le}
use Rattle.range_map.specs.Steps.{Steps, value_at, AreAlike, IsCanonical}
use Rattle.range_map.specs.Combining.{option_before, IsBelowFrom, IsPut, IsMadeUpTo}
use Rattle.range_map.specs.Places.{Stands}
use Rattle.range_map.proofs.Along.{along, along-in, along-below, along-append, value_at-along}
use Rattle.range_map.proofs.Differing.{one, Differ, Differ-from_adjacent, AllAdjacent-from_differ, not-true, not-false}
use Rattle.range_map.proofs.FromStart.{All-one, length-one, IsAscending-one, along-one}

module _ {K : Type 0} (order : K → K → Ordering) (o : IsTotalOrder order) where
  pub Stands-at : (xs : List K) → IsAscending order xs → (i : ℕ) (k : K) → i < length xs → ((d : K) → order (get_or xs i d) k ≡ Equal) → Stands order xs i (i + 1) k
  Stands-at xs up i k within equal = record {
    on = omega arith;
    within = omega (arith, within);
    past = λ m d low high.
        elim (cases_lt m i) as (λ _. is_le (order (get_or xs m d) k) ≡ true) [
          | inl less ↦ ap is_le (Less-then_equal o (get_or xs m d) (get_or xs i d) k (up m i d less within) (equal d))
          | inr more ↦ let same : m ≡ i = omega (arith, more, high) in rw same (ap is_le (equal d))
        ];
    here = λ m d low high. let same : m ≡ i = omega (arith, low, high) in rw same (equal d);
    after = λ m d low high. Less-from_equal o k (get_or xs i d) (get_or xs m d) (Equal-sym o (get_or xs i d) k (equal d)) (up i m d (omega (arith, low)) high);
  }

  pub Stands-beside : (xs : List K) (n : ℕ) (k y : K) → n ≤ length xs → order y k ≡ Equal → AllWithin (λ x. order x y ≡ Less) xs 0 n → IsBelowFrom order xs n y → Stands order xs n n k
  Stands-beside xs n k y within equal before above = record {
    on = omega arith;
    within = within;
    past = λ m d low high. ap is_le (Less-then_equal o (get_or xs m d) y k (before m d low high) equal);
    here = λ m d low high. absurd (omega (arith, low, high));
    after = λ m d low high. Less-from_equal o k y (get_or xs m d) (Equal-sym o y k equal) (above m d low high);
  }

  count-here : (xs : List K) (n n2 : ℕ) (k x : K) → Stands order xs n n2 k → is_le (order k x) ≡ true → AllWithin (λ y. order y x ≡ Greater) xs n2 (length xs) → count_up_to order xs x ≡ n2
  count-here xs n n2 k x s h above =
      count_up_to-split order x xs n2 s.within (λ m d low high. le-trans o (get_or xs m d) k x (s.past m d low high) h) above

  above-too : (xs : List K) (n n2 : ℕ) (k x : K) → Stands order xs n n2 k → order k x ≡ Greater → AllWithin (λ y. order y x ≡ Greater) xs n2 (length xs) → AllWithin (λ y. order y x ≡ Greater) xs n (length xs)
  above-too xs n n2 k x s g later m d low high =
      elim (cases_lt m n2) as (λ _. order (get_or xs m d) x ≡ Greater) [
        | inl h ↦ o.congr (get_or xs m d) k x (s.here m d low h) ∙ g
        | inr h ↦ later m d (omega (arith, h)) high
      ]

-- options with one more behind them
module _ {W : Type 0} (E : W → W → Bool) (e : IsEquivalence E) where
  Differ-append : (r d : W) (ws : List W) (c : Bool) (w : W) → Differ E r ws → c ≡ not (E (get_or (r ∷ ws) (length ws) d) w) → Differ E r (ws ++ one c w)
  Differ-append r d [] true w h is = (not-true E e (E r w) is, tt)
  Differ-append r d [] false w h is = tt
  Differ-append r d (v ∷ ws) c w h is = (h.0, Differ-append v d ws c w h.1 is)

  -- the last of them is like the one that was put, or wasn't because it was like the last
  last-append : (r d : W) (ws : List W) (c : Bool) (w : W) → c ≡ not (E (get_or (r ∷ ws) (length ws) d) w) → E (get_or (r ∷ (ws ++ one c w)) (length (ws ++ one c w)) d) w ≡ true
  last-append r d [] true w is = e.refl w
  last-append r d [] false w is = not-false E e (E r w) is
  last-append r d (v ∷ ws) c w is = last-append v d ws c w is

module _ {K W : Type 0} (order : K → K → Ordering) where
  -- where all keys are at or below x, the last option holds
  along-all : (p d : W) (ks : List K) (ws : List W) (x : K) → length ws ≡ length ks → All (λ k. is_le (order k x) ≡ true) ks → along order p ks ws x ≡ get_or (p ∷ ws) (length ws) d
  along-all p d [] [] x same h = refl
  along-all p d [] (w ∷ ws) x same h = absurd (omega (arith, same))
  along-all p d (k ∷ ks) [] x same h = absurd (omega (arith, same))
  along-all p d (k ∷ ks) (w ∷ ws) x same h =
      along-in order p k ks w ws x (All-head (λ l. is_le (order l x) ≡ true) k ks h)
      ∙ along-all w d ks ws x (omega (arith, same)) (All-tail (λ l. is_le (order l x) ≡ true) k ks h)

module _ {K U : Type 0} (order : K → K → Ordering) (o : IsTotalOrder order) (E : U → U → Bool) (e : IsEquivalence E)
    (old new : Steps K U) (key : K) (p : Option U) (canonical : IsCanonical order E old) (put : IsPut order E old key p new)
    (below : All (λ y. order y put.key_put ≡ Less) old.keys) where
  pub then_put : All (λ y. All (λ l. order y l ≡ Less) (one put.is_put put.key_put)) old.keys
  then_put n d within = All-one (λ l. order (get_or old.keys n d) l ≡ Less) put.is_put put.key_put (below n d within)

  pub IsCanonical-put : IsCanonical order E new
  IsCanonical-put =
      record {
        ascending = rw put.keys_are (IsAscending-append o old.keys (one put.is_put put.key_put) canonical.ascending (IsAscending-one order put.is_put put.key_put) then_put);
        one_each = rw (put.keys_are, put.options_are)
            (omega (arith, canonical.one_each, length-append old.keys (one put.is_put put.key_put), length-append old.options (one put.is_put p), length-one put.is_put put.key_put p));
        changes = AllAdjacent-from_differ (option_eq E) None new.options
            (rw put.options_are (Differ-append (option_eq E) (options_equiv e) None None old.options put.is_put p (Differ-from_adjacent (option_eq E) None old.options canonical.changes) put.differs));
      }

  parts : (x : K) → value_at order new x ≡ along order (along order None old.keys old.options x) (one put.is_put put.key_put) (one put.is_put p) x
  parts x =
      value_at-along order o E new x IsCanonical-put
      ∙ ap₂ (λ ks ws. along order None ks ws x) put.keys_are put.options_are
      ∙ along-append order o None old.keys old.options (one put.is_put put.key_put) (one put.is_put p) x canonical.one_each then_put

  -- below the key nothing has changed, from it on the option holds
  pub value_at-before_put : (x : K) → order put.key_put x ≡ Greater → value_at order new x ≡ value_at order old x
  value_at-before_put x g =
      parts x
      ∙ along-below order (along order None old.keys old.options x) (one put.is_put put.key_put) (one put.is_put p) x (All-one (λ l. order l x ≡ Greater) put.is_put put.key_put g)
      ∙ sym (value_at-along order o E old x canonical)

  pub value_at-put : (x : K) → is_le (order put.key_put x) ≡ true → AreAlike E (value_at order new x) p
  value_at-put x h =
      ap (λ q. option_eq E q p)
      (parts x ∙ ap (λ q. along order q (one put.is_put put.key_put) (one put.is_put p) x)
      (along-all order None None old.keys old.options x canonical.one_each (λ n d within. ap is_le (Less-then_le o (get_or old.keys n d) put.key_put x (below n d within) h))))
      ∙ along-one order (option_eq E) o (options_equiv e) (option_before old (length old.options)) p put.is_put put.key_put x h put.differs

module _ {K U : Type 0} (order : K → K → Ordering) (o : IsTotalOrder order) (E : U → U → Bool) (e : IsEquivalence E) where
  -- no steps are canonical
  pub IsCanonical-nothing : (m : Steps K U) → m.keys ≡ [] → m.options ≡ [] → IsCanonical order E m
  IsCanonical-nothing m keys options = record {
    ascending = rw keys (IsAscending-nil order);
    one_each = rw (keys, options) refl;
    changes = AllAdjacent-from_differ (option_eq E) None m.options (rw options tt);
  }

module _ {K V W U : Type 0} (order : K → K → Ordering) (o : IsTotalOrder order) (E : U → U → Bool) (e : IsEquivalence E)
    (f : Option V → Option W → Option U) (a : Steps K V) (b : Steps K W) where
  -- one more key, of one side or of both
  pub IsMadeUpTo-step : (i i2 j j2 : ℕ) (old new : Steps K U) (key : K) (p : Option U) → IsMadeUpTo order E f a b i j old → (put : IsPut order E old key p new) →
      Stands order a.keys i i2 put.key_put → Stands order b.keys j j2 put.key_put → All (λ y. order y put.key_put ≡ Less) old.keys →
      AreAlike E p (f (option_before a i2) (option_before b j2)) → IsMadeUpTo order E f a b i2 j2 new
  IsMadeUpTo-step i i2 j j2 old new key p made put in_a in_b below is = record {
    canonical = IsCanonical-put order o E e old new key p made.canonical put below;
    last = equiv.congr _ p _ last_p ∙ is;
    values = λ x a_above b_above.
        is_le-cases (order put.key_put x)
        (λ h. equiv.congr (value_at order new x) p (f (value_at order a x) (value_at order b x)) (value_at-put order o E e old new key p made.canonical put below x h)
        ∙ ap₂ (λ n m. option_eq E p (f (option_before a n) (option_before b m))) (count-here order o a.keys i i2 put.key_put x in_a h a_above) (count-here order o b.keys j j2 put.key_put x in_b h b_above)
        ∙ is)
        (λ g. ap (λ q. option_eq E q (f (value_at order a x) (value_at order b x))) (value_at-before_put order o E e old new key p made.canonical put below x g)
        ∙ made.values x (above-too order o a.keys i i2 put.key_put x in_a g a_above) (above-too order o b.keys j j2 put.key_put x in_b g b_above));
    left_apart = rw put.keys_are
        (All-append (IsBelowFrom order a.keys i2) old.keys (one put.is_put put.key_put)
        (λ n d within m f low high. made.left_apart n d within m f (omega (arith, low, in_a.on)) high)
        (All-one (IsBelowFrom order a.keys i2) put.is_put put.key_put in_a.after));
    right_apart = rw put.keys_are
        (All-append (IsBelowFrom order b.keys j2) old.keys (one put.is_put put.key_put)
        (λ n d within m f low high. made.right_apart n d within m f (omega (arith, low, in_b.on)) high)
        (All-one (IsBelowFrom order b.keys j2) put.is_put put.key_put in_b.after));
    left_below = λ n d low high m f least most. Less-from_le o (get_or a.keys n d) put.key_put (get_or b.keys m f) (in_a.past n d low high) (in_b.after m f least most);
    right_below = λ n d low high m f least most. Less-from_le o (get_or b.keys n d) put.key_put (get_or a.keys m f) (in_b.past n d low high) (in_a.after m f least most);
  }
    where
      equiv : IsEquivalence (option_eq E)
      equiv = options_equiv e

      last_p : AreAlike E (option_before new (length new.options)) p
      last_p = rw put.options_are (last-append (option_eq E) equiv None None old.options put.is_put p put.differs)

  module _ (a_up : IsAscending order a.keys) (b_up : IsAscending order b.keys) (i j : ℕ) (i_in : i ≤ length a.keys) (j_in : j ≤ length b.keys) (old new : Steps K U) (key : K) (p : Option U)
      (made : IsMadeUpTo order E f a b i j old) (put : IsPut order E old key p new) where
    pub below_left : (d : K) → i < length a.keys → key ≡ get_or a.keys i d → All (λ y. order y key ≡ Less) old.keys
    below_left d more is n f within = ap (order (get_or old.keys n f)) is ∙ made.left_apart n f within i d (omega arith) more

    pub IsMadeUpTo-left : i < length a.keys → key ≡ get_or a.keys i key → IsBelowFrom order b.keys j key →
        AreAlike E p (f (option_before a (i + 1)) (option_before b j)) → IsMadeUpTo order E f a b (i + 1) j new
    IsMadeUpTo-left more is run alike =
        IsMadeUpTo-step i (i + 1) j j old new key p made put
        (Stands-at order o a.keys a_up i put.key_put more (λ d. ap (λ k. order k put.key_put) (get_or_default a.keys i d key more ∙ sym is) ∙ put.equal))
        (Stands-beside order o b.keys j put.key_put key j_in put.equal (λ n d low high. ap (order (get_or b.keys n d)) is ∙ made.right_below n d low high i key (omega arith) more) run)
        (λ n d within. Less-then_equal o (get_or old.keys n d) key put.key_put (below_left key more is n d within) put.equal)
        alike

    pub below_right : (d : K) → j < length b.keys → key ≡ get_or b.keys j d → All (λ y. order y key ≡ Less) old.keys
    below_right d more is n f within = ap (order (get_or old.keys n f)) is ∙ made.right_apart n f within j d (omega arith) more

    pub IsMadeUpTo-right : j < length b.keys → key ≡ get_or b.keys j key → IsBelowFrom order a.keys i key →
        AreAlike E p (f (option_before a i) (option_before b (j + 1))) → IsMadeUpTo order E f a b i (j + 1) new
    IsMadeUpTo-right more is run alike =
        IsMadeUpTo-step i i j (j + 1) old new key p made put
        (Stands-beside order o a.keys i put.key_put key i_in put.equal (λ n d low high. ap (order (get_or a.keys n d)) is ∙ made.left_below n d low high j key (omega arith) more) run)
        (Stands-at order o b.keys b_up j put.key_put more (λ d. ap (λ k. order k put.key_put) (get_or_default b.keys j d key more ∙ sym is) ∙ put.equal))
        (λ n d within. Less-then_equal o (get_or old.keys n d) key put.key_put (below_right key more is n d within) put.equal)
        alike

    pub IsMadeUpTo-both : i < length a.keys → j < length b.keys → key ≡ get_or a.keys i key → ((d f : K) → order (get_or a.keys i d) (get_or b.keys j f) ≡ Equal) →
        AreAlike E p (f (option_before a (i + 1)) (option_before b (j + 1))) → IsMadeUpTo order E f a b (i + 1) (j + 1) new
    IsMadeUpTo-both more also is equal alike =
        IsMadeUpTo-step i (i + 1) j (j + 1) old new key p made put
        (Stands-at order o a.keys a_up i put.key_put more (λ d. ap (λ k. order k put.key_put) (get_or_default a.keys i d key more ∙ sym is) ∙ put.equal))
        (Stands-at order o b.keys b_up j put.key_put also
        (λ d. sym (o.congr key (get_or b.keys j d) put.key_put (ap (λ k. order k (get_or b.keys j d)) is ∙ equal key d)) ∙ put.equal))
        (λ n d within. Less-then_equal o (get_or old.keys n d) key put.key_put (below_left key more is n d within) put.equal)
        alike

  -- before the first step nothing is made
  pub IsMadeUpTo-nothing : f None None ≡ None → (old : Steps K U) → old.keys ≡ [] → old.options ≡ [] → IsMadeUpTo order E f a b 0 0 old
  IsMadeUpTo-nothing off old keys options = record {
    canonical = canonical;
    last = rw options (ap (option_eq E None) off);
    values = λ x a_above b_above.
        ap₂ (option_eq E)
        (value_at-along order o E old x canonical ∙ ap₂ (λ ks ws. along order None ks ws x) keys options)
        (ap₂ (λ n m. f (option_before a n) (option_before b m)) (count_up_to-none order x a.keys (λ n d within. a_above n d (omega arith) within)) (count_up_to-none order x b.keys (λ n d within. b_above n d (omega arith) within)) ∙ off);
    left_apart = rw keys (λ n d within. absurd (omega (arith, within)));
    right_apart = rw keys (λ n d within. absurd (omega (arith, within)));
    left_below = λ n d low high. absurd (omega (arith, high));
    right_below = λ n d low high. absurd (omega (arith, high));
  }
    where
      canonical : IsCanonical order E old
      canonical = IsCanonical-nothing order o E e old keys options

  -- behind the last step all is made
  pub IsCombined-made : (made : Steps K U) → IsMadeUpTo order E f a b (length a.keys) (length b.keys) made → (x : K) → AreAlike E (value_at order made x) (f (value_at order a x) (value_at order b x))
  IsCombined-made made m x = m.values x (λ n d low high. absurd (omega (arith, low, high))) (λ n d low high. absurd (omega (arith, low, high)))

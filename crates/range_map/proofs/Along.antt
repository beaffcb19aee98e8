-- A map read along its keys: from a first option on, each key at or below an element brings its own.
use Rattle.std.proofs.Common.{◌≡◌, ℕ, ◌-◌, ◌<◌, ◌≤◌, zero, suc, Bool, true, cond, None, List, [], ◌∷◌, ◌++◌, length, take, get_or, refl, sym, ap, ◌∙◌, All, arith}
use Rattle.std.specs.Cmp.{IsTotalOrder}
use Rattle.std.proofs.lemmas.List.Elements.{All-head, All-tail}
use Rattle.std.specs.declared.cmp.Ordering.{Ordering}
use Rattle.std.specs.declared.cmp.Ordering.TheVariants.{Less, Equal, Greater}
use Rattle.std.specs.Ordering.{is_le}
use Rattle.range_merge.specs.Boundaries.{IsAscending, count_up_to}
use Rattle.range_merge.proofs.Pairs.{AllPairs-head, AllPairs-tail}
use Rattle.range_merge.proofs.Members.{count_up_to-nil}
use Rattle.range_merge.proofs.Orders.{Greater-from_less, Less-from_greater}
use Rattle.range_collections.proofs.CountUpTo.{count_up_to-cons_in, count_up_to-cons_out}
use Rattle.range_collections.proofs.Shortest.{is_le-cases, count_up_to-none}
use Rattle.range_map.specs.Steps.{Steps, value_at, IsCanonical}

module _ {K : Type 0} (order : K → K → Ordering) (o : IsTotalOrder order) where
  -- what is above x is below no key that is above it
  pub above_later : (k : K) (ks : List K) (x : K) → IsAscending order (k ∷ ks) → order k x ≡ Greater → All (λ l. order l x ≡ Greater) ks
  above_later k ks x up above i d within =
      Greater-from_less o x _ (o.trans x k _ (Less-from_greater o k x above) (AllPairs-head (λ y z. order y z ≡ Less) k ks up i d within))

  -- keys after one that is equal to x are above it
  pub above_equal : (k : K) (ks : List K) (x : K) → IsAscending order (k ∷ ks) → order k x ≡ Equal → All (λ l. order l x ≡ Greater) ks
  above_equal k ks x up e i d within =
      Greater-from_less o x _ (sym (o.congr k x _ e) ∙ AllPairs-head (λ y z. order y z ≡ Less) k ks up i d within)

module _ {K W : Type 0} (order : K → K → Ordering) where
  -- the option at x, where p holds before the first key
  abbrev pub along : W → List K → List W → K → W
  along p [] ws x = p
  along p (k ∷ ks) [] x = p
  along p (k ∷ ks) (w ∷ ws) x = cond (is_le (order k x)) (along w ks ws x) p

  pub along-in : (p : W) (k : K) (ks : List K) (w : W) (ws : List W) (x : K) → is_le (order k x) ≡ true → along p (k ∷ ks) (w ∷ ws) x ≡ along w ks ws x
  along-in p k ks w ws x h = ap (λ b. cond b (along w ks ws x) p) h

  pub along-out : (p : W) (k : K) (ks : List K) (w : W) (ws : List W) (x : K) → order k x ≡ Greater → along p (k ∷ ks) (w ∷ ws) x ≡ p
  along-out p k ks w ws x h = ap (λ r. cond (is_le r) (along w ks ws x) p) h

  -- where all keys are above x, the first option holds
  pub along-below : (p : W) (ks : List K) (ws : List W) (x : K) → All (λ k. order k x ≡ Greater) ks → along p ks ws x ≡ p
  along-below p [] ws x h = refl
  along-below p (k ∷ ks) [] x h = refl
  along-below p (k ∷ ks) (w ∷ ws) x h = along-out p k ks w ws x (All-head (λ l. order l x ≡ Greater) k ks h)

  module _ (o : IsTotalOrder order) where
    -- at a first key holds its own option
    pub along-first : (p : W) (k : K) (ks : List K) (w : W) (ws : List W) (x : K) → IsAscending order (k ∷ ks) → order k x ≡ Equal → along p (k ∷ ks) (w ∷ ws) x ≡ w
    along-first p k ks w ws x up e =
        along-in p k ks w ws x (ap is_le e) ∙ along-below w ks ws x (above_equal order o k ks x up e)

    -- the option of the last key at or below x is what the reading ends with
    pub read-along : (p d : W) (ks : List K) (ws : List W) (x : K) → IsAscending order ks → length ws ≡ length ks →
        get_or (p ∷ ws) (count_up_to order ks x) d ≡ along p ks ws x
    read-along p d [] ws x up same = ap (λ n. get_or (p ∷ ws) n d) (count_up_to-nil order x)
    read-along p d (k ∷ ks) [] x up same = absurd (omega (arith, same))
    read-along p d (k ∷ ks) (w ∷ ws) x up same =
        is_le-cases (order k x)
        (λ h. ap (λ n. get_or (p ∷ w ∷ ws) n d) (count_up_to-cons_in order k ks x h)
        ∙ read-along w d ks ws x (AllPairs-tail (λ y z. order y z ≡ Less) k ks up) (omega (arith, same))
        ∙ sym (along-in p k ks w ws x h))
        (λ h. ap (λ n. get_or (p ∷ w ∷ ws) n d) (count_up_to-cons_out order k ks x (ap is_le h) ∙ count_up_to-none order x ks (above_later order o k ks x up h))
        ∙ sym (along-out p k ks w ws x h))

    -- one part of the keys after another: the second part is read from what holds at the end of the
    -- first
    pub along-append : (p : W) (ka : List K) (va : List W) (kb : List K) (vb : List W) (x : K) → length va ≡ length ka →
        All (λ k. All (λ l. order k l ≡ Less) kb) ka → along p (ka ++ kb) (va ++ vb) x ≡ along (along p ka va x) kb vb x
    along-append p [] [] kb vb x same h = refl
    along-append p [] (v ∷ va) kb vb x same h = absurd (omega (arith, same))
    along-append p (k ∷ ka) [] kb vb x same h = absurd (omega (arith, same))
    along-append p (k ∷ ka) (v ∷ va) kb vb x same h =
        let rest = along-append v ka va kb vb x (omega (arith, same)) (All-tail (λ m. All (λ l. order m l ≡ Less) kb) k ka h) in
        let later = All-head (λ m. All (λ l. order m l ≡ Less) kb) k ka h in
        is_le-cases (order k x)
        (λ r. along-in p k (ka ++ kb) v (va ++ vb) x r ∙ rest ∙ ap (λ q. along q kb vb x) (sym (along-in p k ka v va x r)))
        (λ r. along-out p k (ka ++ kb) v (va ++ vb) x r
        ∙ sym (along-below p kb vb x (λ i d within. Greater-from_less o x _ (o.trans x k _ (Less-from_greater o k x r) (later i d within))))
        ∙ ap (λ q. along q kb vb x) (sym (along-out p k ka v va x r)))

  -- where the first n keys are at or below x, the option before place n holds at their end
  pub along-front : (p d : W) (n : ℕ) (ks : List K) (ws : List W) (x : K) → n ≤ length ks → length ws ≡ length ks →
      All (λ k. is_le (order k x) ≡ true) (take n ks) → along p (take n ks) (take n ws) x ≡ get_or (p ∷ ws) n d
  along-front p d zero ks ws x within same h = refl
  along-front p d (suc n) [] ws x within same h = absurd (omega (arith, within))
  along-front p d (suc n) (k ∷ ks) [] x within same h = absurd (omega (arith, same))
  along-front p d (suc n) (k ∷ ks) (w ∷ ws) x within same h =
      along-in p k (take n ks) w (take n ws) x (All-head (λ l. is_le (order l x) ≡ true) k (take n ks) h)
      ∙ along-front w d n ks ws x (omega (arith, within)) (omega (arith, same)) (All-tail (λ l. is_le (order l x) ≡ true) k (take n ks) h)

-- the option at x of a map
pub value_at-along : {K V : Type 0} (order : K → K → Ordering) (o : IsTotalOrder order) (E : V → V → Bool) (m : Steps K V) (x : K) →
    IsCanonical order E m → value_at order m x ≡ along order None m.keys m.options x
value_at-along order o E m x canonical = read-along order o None None m.keys m.options x canonical.ascending canonical.one_each

-- behind the first option, the others are read from place 1 on
pub get_or-behind_first : {W : Type 0} (p : W) (ws : List W) (n : ℕ) (d : W) → 0 < n → get_or (p ∷ ws) n d ≡ get_or ws (n - 1) d
get_or-behind_first p ws zero d some = absurd (omega (arith, some))
get_or-behind_first p ws (suc n) d some = let e : n ≡ suc n - 1 = omega arith in ap (λ i. get_or ws i d) e

-- A map in which a range has one option, from the start of the range on: the steps below the start
-- stay, one may stand at it, and the rest come behind.
use Rattle.std.proofs.Common.{◌≡◌, ℕ, ◌≤◌, zero, suc, Bool, true, false, not, cond, ◌&&◌, Option, List, [], ◌∷◌, ◌++◌, length, take, drop, get_or, refl, sym, ap, ap₂, ◌∙◌, All, arith}
use Rattle.std.specs.List.{AllWithin}
use Rattle.std.specs.Cmp.{IsTotalOrder, IsEquivalence}
use Rattle.std.proofs.lemmas.List.{get_or_default, take-append-drop, length-append, length-take-le}
use Rattle.std.proofs.lemmas.List.Elements.{All-append}
use Rattle.std.proofs.lemmas.Cmp.{tied_itself}
use Rattle.std.specs.declared.cmp.Ordering.{Ordering}
use Rattle.std.specs.declared.cmp.Ordering.TheVariants.{Less}
use Rattle.std.specs.Ordering.{is_le}
use Rattle.range_merge.specs.Boundaries.{IsAscending}
use Rattle.range_merge.proofs.Orders.{Greater-from_less, Less-from_greater}
use Rattle.range_collections.proofs.Shortest.{is_le-cases, Less-then_le}
use Rattle.range_collections.proofs.Cut.{All-take_within, All-drop_within, IsAscending-take}
use Rattle.range_collections.proofs.Insertion.{IsAscending-append}
use Rattle.range_map.specs.Changed.{is_before_end, is_in_range}
use Rattle.range_map.proofs.Along.{along, along-in, along-out, along-below, along-append, along-front}
use Rattle.range_map.proofs.Differing.{one, Differ, Differ-take, Differ-one, equal-trans, not-false}

pub All-one : {X : Type 0} (P : X → Type 0) (b : Bool) (x : X) → P x → All P (one b x)
All-one P true x h i d within = is_first i within
  where
    is_first : (i : ℕ) → suc i ≤ 1 → P (get_or (x ∷ []) i d)
    is_first zero less = h
    is_first (suc k) less = absurd (omega (arith, less))
All-one P false x h i d within = absurd (omega (arith, within))

pub length-one : {X Y : Type 0} (b : Bool) (x : X) (y : Y) → length (one b x) ≡ length (one b y)
length-one true x y = refl
length-one false x y = refl

module _ {K : Type 0} (order : K → K → Ordering) where
  pub IsAscending-one : (b : Bool) (k : K) → IsAscending order (one b k)
  IsAscending-one true k i j d below within = absurd (omega (arith, within, below))
  IsAscending-one false k i j d below within = absurd (omega (arith, within, below))

module _ {K W : Type 0} (order : K → K → Ordering) (E : W → W → Bool) where
  -- the rest of the steps: in order, above the start, and with v holding before them they leave v in
  -- the range and the options as they were behind it
  pub record IsRest (p : W) (ks : List K) (ws : List W) (start : K) (end : Option K) (v : W)
      (rk : List K) (rw : List W) : Type 0 where
    pub ascending : IsAscending order rk
    pub one_each : length rw ≡ length rk
    pub above : All (λ k. order start k ≡ Less) rk
    pub differ : Differ E v rw
    pub inside : (x : K) → is_le (order start x) ≡ true → is_before_end order end x ≡ true →
        E (along order v rk rw x) v ≡ true
    pub behind : (x : K) → is_le (order start x) ≡ true → is_before_end order end x ≡ false →
        E (along order v rk rw x) (along order p ks ws x) ≡ true

  module _ (o : IsTotalOrder order) (e : IsEquivalence E) where
    -- a step at k only where v differs from the option before it: from k on it is v
    pub along-one : (p v : W) (b : Bool) (k : K) (x : K) → is_le (order k x) ≡ true → b ≡ not (E p v) →
        E (along order p (one b k) (one b v) x) v ≡ true
    along-one p v true k x h is = ap (λ q. E q v) (along-in order p k [] v [] x h) ∙ e.refl v
    along-one p v false k x h is = not-false E e (E p v) is

    -- readings that begin with equal options go on with equal ones
    pub along-equal : (p q : W) (ks : List K) (ws : List W) (x : K) → E p q ≡ true → E (along order p ks ws x) (along order q ks ws x) ≡ true
    along-equal p q [] ws x h = h
    along-equal p q (k ∷ ks) [] x h = h
    along-equal p q (k ∷ ks) (w ∷ ws) x h =
        is_le-cases (order k x)
        (λ t. ap₂ E (along-in order p k ks w ws x t) (along-in order q k ks w ws x t) ∙ e.refl (along order w ks ws x))
        (λ f. ap₂ E (along-out order p k ks w ws x f) (along-out order q k ks w ws x f) ∙ h)

    -- the keys before a place are below those from there on
    pub front_below_back : (ks : List K) → IsAscending order ks → (n : ℕ) → n ≤ length ks → All (λ k. All (λ l. order k l ≡ Less) (drop n ks)) (take n ks)
    front_below_back ks up n within =
        All-take_within order (λ k. All (λ l. order k l ≡ Less) (drop n ks)) n ks within
        (λ i d low high. All-drop_within order (λ l. order (get_or ks i d) l ≡ Less) n ks within
        (λ j f least most. ap (λ k. order k (get_or ks j f)) (get_or_default ks i d f (omega (arith, within, high))) ∙ up i j f (omega (arith, high, least)) most))

    -- a reading cut in two
    pub along-cut : (p : W) (ks : List K) (ws : List W) → IsAscending order ks → length ws ≡ length ks → (n : ℕ) (x : K) → n ≤ length ks →
        along order p ks ws x ≡ along order (along order p (take n ks) (take n ws) x) (drop n ks) (drop n ws) x
    along-cut p ks ws up same n x within =
        ap₂ (λ ls us. along order p ls us x) (sym (take-append-drop n ks)) (sym (take-append-drop n ws))
        ∙ along-append order o p (take n ks) (take n ws) (drop n ks) (drop n ws) x
        (omega (arith, same, length-take-le n ws (omega (arith, same, within)), length-take-le n ks within))
        (front_below_back ks up n within)

    module _ (p : W) (ks : List K) (ws : List W) (up : IsAscending order ks) (same : length ws ≡ length ks) (differs : Differ E p ws)
        (start : K) (end : Option K) (from : ℕ) (from_in : from ≤ length ks)
        (below : AllWithin (λ y. order y start ≡ Less) ks 0 from) (at_least : AllWithin (λ y. is_le (order start y) ≡ true) ks from (length ks))
        (v : W) (b : Bool) (b_is : b ≡ not (E (get_or (p ∷ ws) from p) v))
        (rk : List K) (rw : List W) (rest : IsRest p ks ws start end v rk rw) where
      abbrev pub new_keys : List K
      new_keys = take from ks ++ (one b start ++ rk)

      abbrev pub new_options : List W
      new_options = take from ws ++ (one b v ++ rw)

      front_below : All (λ k. order k start ≡ Less) (take from ks)
      front_below = All-take_within order (λ y. order y start ≡ Less) from ks from_in below

      from_start : All (λ k. is_le (order start k) ≡ true) (one b start ++ rk)
      from_start =
          All-append (λ k. is_le (order start k) ≡ true) (one b start) rk
          (All-one (λ k. is_le (order start k) ≡ true) b start (ap is_le (tied_itself o start)))
          (λ k d within. ap is_le (rest.above k d within))

      front_then : All (λ k. All (λ l. order k l ≡ Less) (one b start ++ rk)) (take from ks)
      front_then i d within j f inside = Less-then_le o _ start _ (front_below i d within) (from_start j f inside)

      start_then : All (λ k. All (λ l. order k l ≡ Less) rk) (one b start)
      start_then = All-one (λ k. All (λ l. order k l ≡ Less) rk) b start rest.above

      pub ascending : IsAscending order new_keys
      ascending =
          IsAscending-append o (take from ks) (one b start ++ rk) (IsAscending-take order from ks up)
          (IsAscending-append o (one b start) rk (IsAscending-one order b start) rest.ascending start_then)
          front_then

      front_same : length (take from ws) ≡ length (take from ks)
      front_same = omega (arith, same, length-take-le from ws (omega (arith, same, from_in)), length-take-le from ks from_in)

      pub one_each : length new_options ≡ length new_keys
      one_each =
          omega (
            arith,
            front_same,
            rest.one_each,
            length-append (take from ws) (one b v ++ rw),
            length-append (one b v) rw,
            length-append (take from ks) (one b start ++ rk),
            length-append (one b start) rk,
            length-one b v start,
          )

      pub differ : Differ E p new_options
      differ =
          Differ-take E p p from ws (one b v ++ rw) (omega (arith, same, from_in)) differs
          (Differ-one E e (get_or (p ∷ ws) from p) v b rw b_is rest.differ)

      parts : (x : K) → along order p new_keys new_options x ≡ along order (along order p (take from ks) (take from ws) x) (one b start ++ rk) (one b v ++ rw) x
      parts x = along-append order o p (take from ks) (take from ws) (one b start ++ rk) (one b v ++ rw) x front_same front_then

      before : (x : K) → order x start ≡ Less → E (along order p new_keys new_options x) (along order p ks ws x) ≡ true
      before x h =
          ap₂ E
          (parts x ∙ along-below order _ (one b start ++ rk) (one b v ++ rw) x (λ i d within. Greater-from_less o x _ (Less-then_le o x start _ h (from_start i d within))))
          (along-cut p ks ws up same from x from_in
          ∙ along-below order _ (drop from ks) (drop from ws) x
          (λ i d within. Greater-from_less o x _ (Less-then_le o x start _ h (All-drop_within order (λ y. is_le (order start y) ≡ true) from ks from_in at_least i d within))))
          ∙ e.refl (along order p (take from ks) (take from ws) x)

      -- from the start on, v holds before the rest
      at_start : (x : K) → is_le (order start x) ≡ true → E (along order (along order p (take from ks) (take from ws) x) (one b start) (one b v) x) v ≡ true
      at_start x h =
          ap (λ q. E (along order q (one b start) (one b v) x) v)
          (along-front order p p from ks ws x from_in same (λ i d within. ap is_le (Less-then_le o _ start x (front_below i d within) h)))
          ∙ along-one (get_or (p ∷ ws) from p) v b start x h b_is

      on : (x : K) → is_le (order start x) ≡ true → E (along order p new_keys new_options x) (along order v rk rw x) ≡ true
      on x h =
          ap (λ q. E q (along order v rk rw x))
          (parts x ∙ along-append order o _ (one b start) (one b v) rk rw x (length-one b v start) start_then)
          ∙ along-equal _ v rk rw x (at_start x h)

      by_bool : {G : Type 0} (c : Bool) → (c ≡ true → G) → (c ≡ false → G) → G
      by_bool true t f = t refl
      by_bool false t f = f refl

      pub values : (x : K) → E (along order p new_keys new_options x) (cond (is_in_range order start end x) v (along order p ks ws x)) ≡ true
      values x =
          is_le-cases (order start x)
          (λ h. by_bool (is_before_end order end x)
          (λ l. ap₂ (λ s t. E (along order p new_keys new_options x) (cond (s && t) v (along order p ks ws x))) h l
          ∙ equal-trans E e _ _ _ (on x h) (rest.inside x h l))
          (λ l. ap₂ (λ s t. E (along order p new_keys new_options x) (cond (s && t) v (along order p ks ws x))) h l
          ∙ equal-trans E e _ _ _ (on x h) (rest.behind x h l)))
          (λ h. ap (λ r. E (along order p new_keys new_options x) (cond (is_le r && is_before_end order end x) v (along order p ks ws x))) h
          ∙ before x (Less-from_greater o start x h))

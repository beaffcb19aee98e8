-- The gaps of a map within a range: their members, and that they lie apart.
use Rattle.std.proofs.Common.{◌≡◌, ℕ, ◌+◌, ◌-◌, ◌≤◌, ◌&&◌, ◌||◌, Bool, true, false, not, cond, None, Some, Option, List, [], ◌∷◌, length, take, drop, get_or, map, refl, sym, ap, ap₂, ◌∙◌, All, AllPairs, arith, true≢false}
use Rattle.std.specs.List.{AllWithin}
use Rattle.std.specs.Option.{is_some, option_eq}
use Rattle.std.specs.Cmp.{IsTotalOrder, IsEquivalence}
use Rattle.std.specs.Cmp.Lexicographic.{options_equiv}
use Rattle.std.proofs.lemmas.List.{append-nil, length-drop, length-map, length-take-le, drop-drop, get_or-drop}
use Rattle.std.proofs.lemmas.List.Elements.{All-head, All-tail, All-nil, All-cons, All-take}
use Rattle.std.proofs.lemmas.List.Kept.{AllPairs-cons}
use Rattle.std.specs.declared.cmp.Ordering.{Ordering}
use Rattle.std.specs.declared.cmp.Ordering.TheVariants.{Less, Greater}
use Rattle.std.specs.Ordering.{is_le, is_lt}
use Rattle.range_merge.specs.Boundaries.{IsAscending}
use Rattle.range_merge.proofs.Members.{by_Ordering}
use Rattle.range_merge.proofs.Orders.{Greater-from_less, Less-from_greater, Equal-self, Equal-sym}
use Rattle.range_merge.proofs.Pairs.{AllPairs-nil}
use Rattle.range_collections.specs.Ranges.{EndsBelow, range_start}
use Rattle.range_collections.specs.declared.range_set_range.RangeSetRange.{RangeSetRange}
use Rattle.range_collections.proofs.Ascending.{Less-from_is_lt, IsAscending-head, IsAscending-tail, IsAscending-cons}
use Rattle.range_collections.proofs.Cut.{All-take_within, All-drop_within, IsAscending-take}
use Rattle.range_collections.proofs.Shortest.{is_le-cases, le-trans, Less-from_le, Less-then_le}
use Rattle.range_merge.proofs.Pairs.{AllPairs-drop}
use Rattle.range_map.specs.Steps.{Steps, value_at, IsCanonical}
use Rattle.range_map.specs.Entries.{range_until, first_or, entries_until}
use Rattle.range_map.specs.Gaps.{unvalued, gaps_until, has, is_in_some, AreGaps}
use Rattle.range_map.proofs.Along.{along, along-in, along-out, along-below, along-front, above_later, value_at-along}
use Rattle.range_map.proofs.Differing.{Differ, Differ-from_adjacent, Differ-drop, Differ-take}
use Rattle.range_map.proofs.FromStart.{along-cut}
use Rattle.range_map.proofs.FreeRanges.{less_to}
use Rattle.range_map.proofs.Overlapping.{and-false, first-above}
use Rattle.range_map.proofs.Setlike.{is_some-unit}

module _ {K : Type 0} (order : K → K → Ordering) (o : IsTotalOrder order) where
  lt-not_le : (x y : K) → is_lt (order x y) ≡ not (is_le (order y x))
  lt-not_le x y =
      by_Ordering (order x y) (λ l. ap is_lt l ∙ sym (ap (λ r. not (is_le r)) (Greater-from_less o x y l)))
      (λ e. ap is_lt e ∙ sym (ap (λ r. not (is_le r)) (Equal-sym o x y e)))
      (λ g. ap is_lt g ∙ sym (ap (λ r. not (is_le r)) (Less-from_greater o x y g)))

  -- one range alone, and one before others
  alone : (b l : Bool) (u : Unit {0}) → ((b && l) || false) ≡ (l && is_some (cond b (Some u) None))
  alone true true u = refl
  alone true false u = refl
  alone false true u = refl
  alone false false u = refl

  joined : (b c l : Bool) (p : Option (Unit {0})) → (b ≡ false → c ≡ false) → (c ≡ false → b ≡ true → l ≡ true) →
      ((b && not c) || (l && is_some (cond c p None))) ≡ (l && is_some (cond b (cond c p (Some tt)) None))
  joined true true l p h k = refl
  joined true false true p h k = refl
  joined true false false p h k = absurd (true≢false (sym (k refl refl)))
  joined false true l p h k = absurd (true≢false (h refl))
  joined false false l p h k = refl

  module _ (end : K) where
    abbrev ranges : List K → List (Option (Unit {0})) → List (RangeSetRange K)
    ranges ks ws = map (λ e. e.0) (entries_until ks ws (Some end))

    -- an element is in some range exactly if it is below the end and its step has the unit
    has-ranges : (ks : List K) (ws : List (Option (Unit {0}))) (x : K) → IsAscending order ks → All (λ k. order k end ≡ Less) ks → length ws ≡ length ks →
        is_in_some order (ranges ks ws) x ≡ (is_lt (order x end) && is_some (along order None ks ws x))
    has-ranges [] ws x up below same = sym (and-false (is_lt (order x end)) false refl)
    has-ranges (k ∷ ks) [] x up below same = absurd (omega (arith, same))
    has-ranges (k ∷ ks) (None ∷ ws) x up below same =
        has-ranges ks ws x (IsAscending-tail order k ks up) (All-tail (λ k. order k end ≡ Less) k ks below) (omega (arith, same))
        ∙ ap (λ p. is_lt (order x end) && is_some p)
        (is_le-cases (order k x) (λ h. sym (along-in order None k ks None ws x h))
        (λ g. along-below order None ks ws x (above_later order o k ks x up g) ∙ sym (along-out order None k ks None ws x g)))
    has-ranges (k ∷ []) (Some u ∷ ws) x up below same = alone (is_le (order k x)) (is_lt (order x end)) u
    has-ranges (k ∷ (y ∷ ys)) (Some u ∷ []) x up below same = absurd (omega (arith, same))
    has-ranges (k ∷ (y ∷ ys)) (Some u ∷ (w ∷ ws)) x up below same =
        let rest = has-ranges (y ∷ ys) (w ∷ ws) x (IsAscending-tail order k (y ∷ ys) up) (All-tail (λ k. order k end ≡ Less) k (y ∷ ys) below) (omega (arith, same)) in
        let first : order k y ≡ Less = All-head (λ l. order k l ≡ Less) y ys (IsAscending-head order k (y ∷ ys) up) in
        let y_end : order y end ≡ Less = All-head (λ l. order l end ≡ Less) y ys (All-tail (λ k. order k end ≡ Less) k (y ∷ ys) below) in
        ap₂ (λ c r. (is_le (order k x) && c) || r) (lt-not_le x y) rest
        ∙ joined (is_le (order k x)) (is_le (order y x)) (is_lt (order x end)) (along order w ys ws x)
        (λ h.
        is_le-cases (order y x)
        (λ t. absurd (true≢false (sym (ap is_le (Less-then_le o k y x first t)) ∙ h)))
        (λ g. ap is_le g))
        (λ h _.
        is_le-cases (order y x) (λ t. absurd (true≢false (sym t ∙ h)))
        (λ g. ap is_lt (o.trans x y end (Less-from_greater o y x g) y_end)))

    itself : (k : K) (r : Option K) → ((z : K) → r ≡ Some z → order k z ≡ Less) → has order (range_until k r) (range_start (range_until k r)) ≡ true
    itself k None h = ap (λ r. is_le r && true) (Equal-self o k)
    itself k (Some z) h = ap₂ (λ r s. is_le r && is_lt s) (Equal-self o k) (h z refl)

    -- each range has its start
    filled-ranges : (ks : List K) (ws : List (Option (Unit {0}))) → IsAscending order ks → All (λ k. order k end ≡ Less) ks →
        All (λ r. has order r (range_start r) ≡ true) (ranges ks ws)
    filled-ranges [] ws up below = All-nil (λ r. has order r (range_start r) ≡ true)
    filled-ranges (k ∷ ks) [] up below = All-nil (λ r. has order r (range_start r) ≡ true)
    filled-ranges (k ∷ ks) (None ∷ ws) up below = filled-ranges ks ws (IsAscending-tail order k ks up) (All-tail (λ k. order k end ≡ Less) k ks below)
    filled-ranges (k ∷ ks) (Some u ∷ ws) up below =
        All-cons (λ r. has order r (range_start r) ≡ true) (range_until k (first_or ks (Some end))) (ranges ks ws)
        (itself k (first_or ks (Some end))
        (first-above order k ks (Some end) (IsAscending-head order k ks up) (less_to order k end (All-head (λ k. order k end ≡ Less) k ks below))))
        (filled-ranges ks ws (IsAscending-tail order k ks up) (All-tail (λ k. order k end ≡ Less) k ks below))

    -- all ranges start at keys
    starts-ranges : (P : K → Type 0) (ks : List K) (ws : List (Option (Unit {0}))) → All P ks → All (λ r. P (range_start r)) (ranges ks ws)
    starts-ranges P [] ws h = All-nil (λ r. P (range_start r))
    starts-ranges P (k ∷ ks) [] h = All-nil (λ r. P (range_start r))
    starts-ranges P (k ∷ ks) (None ∷ ws) h = starts-ranges P ks ws (All-tail P k ks h)
    starts-ranges P (k ∷ ks) (Some u ∷ ws) h =
        All-cons (λ r. P (range_start r)) (range_until k (first_or ks (Some end))) (ranges ks ws) (starts (first_or ks (Some end))) (starts-ranges P ks ws (All-tail P k ks h))
      where
        starts : (r : Option K) → P (range_start (range_until k r))
        starts None = All-head P k ks h
        starts (Some z) = All-head P k ks h

  module _ {V : Type 0} (E : V → V → Bool) (end : K) where
    -- neighbours aren't both without a value, so each range ends below the start of the next
    apart-ranges : (k : K) (ks : List K) (p : Option V) (ps : List (Option V)) → IsAscending order (k ∷ ks) → Differ (option_eq E) p ps →
        AllPairs (EndsBelow order) (ranges end (k ∷ ks) (map unvalued (p ∷ ps)))
    apart-ranges k [] (Some v) ps up d = AllPairs-nil (EndsBelow order)
    apart-ranges k [] None ps up d = AllPairs-cons (EndsBelow order) (range_until k (Some end)) [] (All-nil _) (AllPairs-nil (EndsBelow order))
    apart-ranges k (y ∷ ys) (Some v) [] up d = AllPairs-nil (EndsBelow order)
    apart-ranges k (y ∷ ys) (Some v) (q ∷ ps) up d = apart-ranges y ys q ps (IsAscending-tail order k (y ∷ ys) up) d.1
    apart-ranges k (y ∷ ys) None [] up d = AllPairs-cons (EndsBelow order) (range_until k (Some y)) [] (All-nil _) (AllPairs-nil (EndsBelow order))
    apart-ranges k (y ∷ ys) None (None ∷ ps) up d = absurd (true≢false d.0)
    apart-ranges k (y ∷ ys) None (Some v ∷ ps) up d =
        let later = IsAscending-tail order k (y ∷ ys) up in
        AllPairs-cons (EndsBelow order) (range_until k (Some y)) (ranges end ys (map unvalued ps))
        (starts-ranges end (λ z. order y z ≡ Less) ys (map unvalued ps) (IsAscending-head order y ys later))
        (apart-ranges y ys (Some v) ps later d.1)

along-map : {K W U : Type 0} (order : K → K → Ordering) (f : W → U) (p : W) (ks : List K) (ws : List W) (x : K) →
    along order (f p) ks (map f ws) x ≡ f (along order p ks ws x)
along-map order f p [] ws x = refl
along-map order f p (k ∷ ks) [] x = refl
along-map order f p (k ∷ ks) (w ∷ ws) x =
    is_le-cases (order k x)
    (λ h. along-in order (f p) k ks (f w) (map f ws) x h ∙ along-map order f w ks ws x ∙ ap f (sym (along-in order p k ks w ws x h)))
    (λ g. along-out order (f p) k ks (f w) (map f ws) x g ∙ ap f (sym (along-out order p k ks w ws x g)))

module _ {K V : Type 0} (order : K → K → Ordering) (o : IsTotalOrder order) (E : V → V → Bool) (e : IsEquivalence E)
    (m : Steps K V) (canonical : IsCanonical order E m) (start end : K) where
  module _ (less : order start end ≡ Less) (from to : ℕ) (from_in : from ≤ length m.keys) (to_in : to ≤ length m.keys) (ordered : from ≤ to)
      (up_to : AllWithin (λ k. is_le (order k start) ≡ true) m.keys 0 from) (above : AllWithin (λ k. order k start ≡ Greater) m.keys from (length m.keys))
      (below : AllWithin (λ k. order k end ≡ Less) m.keys 0 to) (at_least : AllWithin (λ k. is_le (order end k) ≡ true) m.keys to (length m.keys)) where
    abbrev pub count : ℕ
    count = to - from

    abbrev pub at : Option V
    at = get_or (None ∷ m.options) from None

    abbrev pub ks : List K
    ks = take count (drop from m.keys)

    abbrev pub ps : List (Option V)
    ps = take count (drop from m.options)

    count_in : count ≤ length (drop from m.keys)
    count_in = omega (arith, length-drop from m.keys, to_in)

    all_above : All (λ k. order start k ≡ Less) (drop from m.keys)
    all_above i d within = Less-from_greater o _ start (All-drop_within order (λ k. order k start ≡ Greater) from m.keys from_in above i d within)

    ascending : IsAscending order (start ∷ ks)
    ascending =
        IsAscending-cons order start ks (All-take (λ k. order start k ≡ Less) count (drop from m.keys) all_above)
        (IsAscending-take order count (drop from m.keys) (AllPairs-drop (λ y z. order y z ≡ Less) from m.keys canonical.ascending))

    all_below : All (λ k. order k end ≡ Less) (start ∷ ks)
    all_below =
        All-cons (λ k. order k end ≡ Less) start ks less
        (All-take_within order (λ k. order k end ≡ Less) count (drop from m.keys) count_in
        (λ i d low high. rw (get_or-drop from m.keys i d) (below (from + i) d (omega arith) (omega (arith, high, ordered)))))

    same : length ps ≡ length ks
    same =
        omega (
          arith,
          length-take-le count (drop from m.options) (omega (arith, length-drop from m.options, canonical.one_each, to_in)),
          length-take-le count (drop from m.keys) count_in,
        )

    differ : Differ (option_eq E) at ps
    differ =
        let d = Differ-drop (option_eq E) None None from m.options (omega (arith, from_in, canonical.one_each)) (Differ-from_adjacent (option_eq E) None m.options canonical.changes) in
        rw (← append-nil ps) (Differ-take (option_eq E) at None count (drop from m.options) [] (omega (arith, length-drop from m.options, canonical.one_each, to_in)) d tt)

    -- within the range, the map is read along these steps
    value : (x : K) → is_le (order start x) ≡ true → is_lt (order x end) ≡ true → value_at order m x ≡ along order at ks ps x
    value x s l =
        value_at-along order o E m x canonical
        ∙ along-cut order (option_eq E) o (options_equiv e) None m.keys m.options canonical.ascending canonical.one_each from x from_in
        ∙ ap (λ p. along order p (drop from m.keys) (drop from m.options) x)
        (along-front order None None from m.keys m.options x from_in canonical.one_each
        (All-take_within order (λ k. is_le (order k x) ≡ true) from m.keys from_in (λ i d low high. le-trans o _ start x (up_to i d low high) s)))
        ∙ along-cut order (option_eq E) o (options_equiv e) at (drop from m.keys) (drop from m.options)
        (AllPairs-drop (λ y z. order y z ≡ Less) from m.keys canonical.ascending) (omega (arith, length-drop from m.keys, length-drop from m.options, canonical.one_each)) count x count_in
        ∙ along-below order (along order at ks ps x) (drop count (drop from m.keys)) (drop count (drop from m.options)) x
        (rw (drop-drop count from m.keys)
        (All-drop_within order (λ k. order k x ≡ Greater) (from + count) m.keys (omega (arith, ordered, to_in))
        (λ i d low high.
        Greater-from_less o x _ (Less-then_le o x end _ (Less-from_is_lt (order x end) l) (at_least i d (omega (arith, low, ordered)) high)))))

    -- the first part begins at the start where no value holds there
    abbrev pub found : List (RangeSetRange K)
    found = map (λ e. e.0) (entries_until (start ∷ ks) (map unvalued (at ∷ ps)) (Some end))

    pub AreGaps-found : AreGaps order m start end found
    AreGaps-found = record {
      members = λ x.
          has-ranges order o end (start ∷ ks) (map unvalued (at ∷ ps)) x ascending all_below (omega (arith, same, length-map ps unvalued))
          ∙ ap (λ p. is_lt (order x end) && is_some (cond (is_le (order start x)) p None)) (along-map order unvalued at ks ps x)
          ∙ turned (is_le (order start x)) (is_lt (order x end)) (along order at ks ps x) (value_at order m x) (value x);
      filled = filled-ranges order o end (start ∷ ks) (map unvalued (at ∷ ps)) ascending all_below;
      apart = apart-ranges order o E end start ks at ps ascending differ;
    }
      where
        turned : (b l : Bool) (p q : Option V) → (b ≡ true → l ≡ true → q ≡ p) → (l && is_some (cond b (unvalued p) None)) ≡ ((b && l) && not (is_some q))
        turned true true p q h = is_some-unit (not (is_some p)) ∙ ap (λ r. not (is_some r)) (sym (h refl refl))
        turned true false p q h = refl
        turned false true p q h = refl
        turned false false p q h = refl

    pub gaps-found : (first : Option K) → first ≡ cond (not (is_some at)) (Some start) None → gaps_until first ks ps end ≡ found
    gaps-found first h = ap (λ f. gaps_until f ks ps end) h ∙ by_first at
      where
        by_first : (p : Option V) → gaps_until (cond (not (is_some p)) (Some start) None) ks ps end ≡
            map (λ e. e.0) (entries_until (start ∷ ks) (map unvalued (p ∷ ps)) (Some end))
        by_first None = refl
        by_first (Some v) = refl

-- an empty or reversed range has no part without a value
pub AreGaps-nothing : {K V : Type 0} (order : K → K → Ordering) (o : IsTotalOrder order) (m : Steps K V) (start end : K) → is_lt (order start end) ≡ false → AreGaps order m start end []
AreGaps-nothing order o m start end none = record {
  members = λ x. outside (is_le (order start x)) (is_lt (order x end)) (not (is_some (value_at order m x)))
      (λ above below. true≢false (sym (ap is_lt (Less-from_le o start x end above (Less-from_is_lt (order x end) below))) ∙ none));
  filled = All-nil (λ r. has order r (range_start r) ≡ true);
  apart = AllPairs-nil (EndsBelow order);
}
  where
    outside : (b c q : Bool) → (b ≡ true → c ≡ true → ⊥) → false ≡ ((b && c) && q)
    outside true true q h = absurd (h refl refl)
    outside true false q h = refl
    outside false c q h = refl

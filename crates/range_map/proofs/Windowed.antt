-- The steps that an operation makes where another map has keys, behind steps that stay, or without those.
use Rattle.std.proofs.Common.{◌≡◌, ℕ, ◌+◌, ◌-◌, ◌<◌, ◌≤◌, zero, suc, inl, inr, Bool, true, false, not, cond, ◌&&◌, Option, Some, None, List, [], ◌∷◌, ◌++◌, length, take, drop, get_or, refl, sym, ap, ap₂, ◌∙◌, subst, arith, append_assoc, drop-cons, take_all, length-drop, All}
use Rattle.std.proofs.lemmas.Bool.{cases_lt}
use Rattle.std.proofs.lemmas.List.{append-nil, get_or-map, get_or_default, get_or-take, take-map, length-take-le}
use Rattle.std.specs.List.{AllWithin}
use Rattle.std.specs.Option.{option_eq, is_some, option_to_list}
use Rattle.std.specs.Cmp.{IsTotalOrder, IsEquivalence}
use Rattle.std.specs.Cmp.Lexicographic.{options_equiv}
use Rattle.std.specs.declared.cmp.Ordering.{Ordering}
use Rattle.std.specs.declared.cmp.Ordering.TheVariants.{Less, Equal}
use Rattle.std.specs.Ordering.{is_le, is_lt}
use Rattle.range_merge.specs.Boundaries.{IsAscending}
use Rattle.range_merge.proofs.Members.{by_Ordering}
use Rattle.range_merge.proofs.Orders.{Less-then_equal, Less-from_equal, Equal-self, Equal-sym, Less-from_greater, Greater-from_less}
use Rattle.range_collections.proofs.Ascending.{IsAscending-cons}
use Rattle.range_collections.proofs.Shortest.{le-trans, Less-from_le}
use Rattle.range_map.specs.Steps.{Steps, value_at, AreAlike, IsCanonical, IsSameMap}
use Rattle.range_map.specs.Changed.{is_in_range, IsCombined}
use Rattle.range_map.specs.Combining.{option_before, IsBelowFrom, IsPut, IsMadeUpTo}
use Rattle.range_map.specs.Listed.{steps_of}
use Rattle.range_map.specs.Places.{Stands}
use Rattle.range_map.specs.Updated.{IsUpdated, unit_on, if_some}
use Rattle.range_map.specs.declared.step.Step.{Step}
use Rattle.range_map.proofs.Along.{read-along, get_or-behind_first}
use Rattle.range_map.proofs.FromStart.{All-one, IsAscending-one}
use Rattle.range_map.proofs.Listed.{length-keys, length-options}
use Rattle.range_map.proofs.Pushed.{IsPut-left_out, IsPut-behind}
use Rattle.range_map.proofs.Retained.{item_at}
use Rattle.range_map.proofs.MadeUpTo.{IsMadeUpTo-step, IsMadeUpTo-left, IsMadeUpTo-nothing, IsCombined-made}

some_from : {X : Type 0} (v : X) (c : Bool) → is_some (cond c (Some v) None) ≡ (c && true)
some_from v true = refl
some_from v false = refl

some_between : {X : Type 0} (v : X) (c b : Bool) → is_some (cond c (cond b None (Some v)) None) ≡ (c && not b)
some_between v true true = refl
some_between v true false = refl
some_between v false b = refl

module _ {K : Type 0} (order : K → K → Ordering) (o : IsTotalOrder order) where
  -- only where a key stands counts, not which of its equals it is
  Stands-equal : (xs : List K) (n n2 : ℕ) (k l : K) → order k l ≡ Equal → Stands order xs n n2 k → Stands order xs n n2 l
  Stands-equal xs n n2 k l same s = record {
    on = s.on;
    within = s.within;
    past = λ m d low high. le-trans o (get_or xs m d) k l (s.past m d low high) (ap is_le same);
    here = λ m d low high. o.congr (get_or xs m d) k l (s.here m d low high) ∙ same;
    after = λ m d low high. Less-from_equal o l k (get_or xs m d) (Equal-sym o k l same) (s.after m d low high);
  }

  -- what is below all keys from one on, is below all from a later one on
  pub IsBelowFrom-later : (ks : List K) (i j : ℕ) (x : K) → i ≤ j → IsBelowFrom order ks i x → IsBelowFrom order ks j x
  IsBelowFrom-later ks i j x on below m d low high = below m d (omega (arith, on, low)) high

  -- what is at or below a key that stands in two lists, is below those behind it in both
  pub apart-behind : (xs ys : List K) (n n2 m m2 : ℕ) (k : K) → Stands order xs n n2 k → Stands order ys m m2 k → AllWithin (IsBelowFrom order ys m2) xs 0 n2
  apart-behind xs ys n n2 m m2 k in_x in_y i d low high j g least most =
      Less-from_le o (get_or xs i d) k (get_or ys j g) (in_x.past i d low high) (in_y.after j g least most)

  pub ends-ascend : (start : K) (end : Option K) → ((e : K) → end ≡ Some e → order start e ≡ Less) → IsAscending order (start ∷ option_to_list end)
  ends-ascend start None some = IsAscending-one order true start
  ends-ascend start (Some e) some =
      IsAscending-cons order start (e ∷ []) (All-one (λ l. order start l ≡ Less) true e (some e refl)) (IsAscending-one order true e)

  before_end : (x z : K) → is_lt (order x z) ≡ not (is_le (order z x))
  before_end x z =
      by_Ordering (order x z)
      (λ r. ap is_lt r ∙ sym (ap (λ q. not (is_le q)) (Greater-from_less o x z r)))
      (λ r. ap is_lt r ∙ sym (ap (λ q. not (is_le q)) (Equal-sym o x z r)))
      (λ r. ap is_lt r ∙ sym (ap (λ q. not (is_le q)) (Less-from_greater o x z r)))

  -- the unit lies on the keys of the range
  unit_on-range : (start : K) (end : Option K) → ((e : K) → end ≡ Some e → order start e ≡ Less) → (x : K) →
      is_some (value_at order (unit_on start end) x) ≡ is_in_range order start end x
  unit_on-range start None some x =
      ap is_some (read-along order o None None (start ∷ []) (Some tt ∷ []) x (ends-ascend start None some) refl)
      ∙ some_from tt (is_le (order start x))
  unit_on-range start (Some z) some x =
      ap is_some (read-along order o None None (start ∷ z ∷ []) (Some tt ∷ None ∷ []) x (ends-ascend start (Some z) some) refl)
      ∙ some_between tt (is_le (order start x)) (is_le (order z x))
      ∙ ap (λ b. is_le (order start x) && b) (sym (before_end x z))

module _ {K V W U : Type 0} (order : K → K → Ordering) (o : IsTotalOrder order) (E : U → U → Bool) (e : IsEquivalence E)
    (f : Option V → Option W → Option U) (a : Steps K V) (b : Steps K W) where
  -- one more key, of one side or of both
  pub IsMadeUpTo-next : (i i2 j j2 : ℕ) (old new : Steps K U) (key : K) (p : Option U) → IsMadeUpTo order E f a b i j old → (put : IsPut order E old key p new) →
      Stands order a.keys i i2 key → Stands order b.keys j j2 key → i + j < i2 + j2 →
      AreAlike E p (f (option_before a i2) (option_before b j2)) → IsMadeUpTo order E f a b i2 j2 new
  IsMadeUpTo-next i i2 j j2 old new key p made put in_a in_b onward alike =
      IsMadeUpTo-step order o E e f a b i i2 j j2 old new key p made put
      (Stands-equal order o a.keys i i2 key put.key_put put.equal in_a) (Stands-equal order o b.keys j j2 key put.key_put put.equal in_b)
      (λ n d within. Less-then_equal o (get_or old.keys n d) key put.key_put (below n d within) put.equal) alike
    where
      below : All (λ y. order y key ≡ Less) old.keys
      below n d within =
          elim (cases_lt i i2) as (λ _. order (get_or old.keys n d) key ≡ Less) [
            | inl more ↦ Less-then_equal o (get_or old.keys n d) (get_or a.keys i d) key
                (made.left_apart n d within i d (omega arith) (omega (arith, more, in_a.within))) (in_a.here i d (omega arith) more)
            | inr none ↦ Less-then_equal o (get_or old.keys n d) (get_or b.keys j d) key
                (made.right_apart n d within j d (omega arith) (omega (arith, onward, none, in_b.within))) (in_b.here j d (omega arith) (omega (arith, onward, none)))
          ]

-- an operation that gives none where the right has none
module _ {K V W U : Type 0} (order : K → K → Ordering) (o : IsTotalOrder order) (E : U → U → Bool) (e : IsEquivalence E)
    (f : Option V → Option W → Option U) (drops : (p : Option V) → f p None ≡ None) (a : Steps K V) (a_up : IsAscending order a.keys) (b : Steps K W) (b_up : IsAscending order b.keys) where
  abbrev Made : ℕ → ℕ → List (Step K U) → Type 0
  Made i j xs = IsMadeUpTo order E f a b i j (steps_of xs)

  -- a step of the left goes where the right has none
  goes : (i j : ℕ) (xs : List (Step K U)) (d : K) → i < length a.keys → j ≤ length b.keys → option_before b j ≡ None → IsBelowFrom order b.keys j (get_or a.keys i d) →
      Made i j xs → Made (i + 1) j xs
  goes i j xs d more j_in none below made =
      IsMadeUpTo-left order o E e f a b a_up b_up i j (omega (arith, more)) j_in (steps_of xs) (steps_of xs) (get_or a.keys i d) None made
      (IsPut-left_out order o E xs (get_or a.keys i d) None (length (steps_of xs).options) (length-options xs)
      (sym (ap (option_eq E (option_before (steps_of xs) (length (steps_of xs).options))) (ap (f (option_before a i)) none ∙ drops (option_before a i))) ∙ made.last))
      more (get_or_default a.keys i d (get_or a.keys i d) more) below
      (ap (option_eq E None) (ap (f (option_before a (i + 1))) none ∙ drops (option_before a (i + 1))))

  go : (n i j : ℕ) (xs : List (Step K U)) → i + n ≤ length a.keys → j ≤ length b.keys → (0 < n → option_before b j ≡ None) →
      AllWithin (IsBelowFrom order b.keys j) a.keys i (i + n) → Made i j xs → Made (i + n) j xs
  go zero i j xs within j_in none below made = let same : i ≡ i + zero = omega arith in subst (λ (m : ℕ). Made m j xs) same made
  go (suc n) i j xs within j_in none below made =
      let more : i < length a.keys = omega (arith, within) in
      let d : K = (item_at a.keys i more).0 in
      let sum : i + 1 + n ≡ i + suc n = omega arith in
      subst (λ (m : ℕ). Made m j xs) sum
      (go n (i + 1) j xs (omega (arith, within)) j_in (λ m. none (omega arith)) (λ m g low high. below m g (omega (arith, low)) (omega (arith, high)))
      (goes i j xs d more j_in (none (omega arith)) (below i d (omega arith) (omega arith)) made))

  -- those up to a place that are below the right's
  pub dropped-to : (i i2 j : ℕ) (xs : List (Step K U)) → i ≤ i2 → i2 ≤ length a.keys → j ≤ length b.keys → option_before b j ≡ None →
      AllWithin (IsBelowFrom order b.keys j) a.keys 0 i2 → Made i j xs → Made i2 j xs
  dropped-to i i2 j xs on within j_in none below made =
      let sum : i + (i2 - i) ≡ i2 = omega (arith, on) in
      subst (λ (m : ℕ). Made m j xs) sum
      (go (i2 - i) i j xs (omega (arith, on, within)) j_in (λ m. none) (λ m g low high. below m g (omega arith) (omega (arith, high, on))) made)

  -- those before the first key of the right
  pub dropped-before : (n : ℕ) → n ≤ length a.keys → AllWithin (IsBelowFrom order b.keys 0) a.keys 0 n → Made n 0 []
  dropped-before n within below =
      let sum : 0 + n ≡ n = omega arith in
      subst (λ (m : ℕ). Made m 0 []) sum
      (go n 0 0 [] (omega (arith, within)) (omega arith) (λ m. refl) (λ m d low high. below m d low (omega (arith, high)))
      (IsMadeUpTo-nothing order o E e f a b (drops None) (steps_of []) refl refl))

  -- those behind the last one
  pub dropped-behind : (n : ℕ) (xs : List (Step K U)) → n ≤ length a.keys → (n < length a.keys → option_before b (length b.keys) ≡ None) → Made n (length b.keys) xs →
      Made (length a.keys) (length b.keys) xs
  dropped-behind n xs within off made =
      let rest : n + (length a.keys - n) ≡ length a.keys = omega (arith, within) in
      subst (λ (m : ℕ). Made m (length b.keys) xs) rest
      (go (length a.keys - n) n (length b.keys) xs (omega (arith, within)) (omega arith) (λ more. off (omega (arith, more))) (λ m g low high l h least most. absurd (omega (arith, least, most))) made)

  pub dropped-values : (xs : List (Step K U)) → Made (length a.keys) (length b.keys) xs → IsCombined order E f a b (steps_of xs)
  dropped-values xs made x = IsCombined-made order o E e f a b (steps_of xs) made x

  -- of no steps of the right nothing is made
  pub dropped-all : b.keys ≡ [] → (xs : List (Step K U)) → xs ≡ [] → Made (length a.keys) (length b.keys) xs
  dropped-all none xs empty =
      let zero-right : 0 ≡ length b.keys = sym (ap length none) in
      subst (λ ys. Made (length a.keys) (length b.keys) ys) (sym empty)
      (subst (λ (m : ℕ). Made (length a.keys) m []) zero-right
      (dropped-before (length a.keys) (omega arith) (λ i d low high m g least most. absurd (omega (arith, most, ap length none)))))

-- an operation that gives the left's where the right has none
module _ {K V W : Type 0} (order : K → K → Ordering) (o : IsTotalOrder order) (E : V → V → Bool) (e : IsEquivalence E)
    (f : Option V → Option W → Option V) (keeps : (p : Option V) → f p None ≡ p) (items : List (Step K V)) (canonical : IsCanonical order E (steps_of items))
    (b : Steps K W) (b_up : IsAscending order b.keys) where
  abbrev a : Steps K V
  a = steps_of items

  abbrev Kept : ℕ → ℕ → List (Step K V) → Type 0
  Kept i j xs = IsMadeUpTo order E f a b i j (steps_of xs)

  key_is : (i : ℕ) (d : Step K V) → i < length items → (get_or items i d).key ≡ get_or a.keys i (get_or items i d).key
  key_is i d more = sym (get_or-map (λ (s : Step K V). s.key) items i d (get_or items i d).key more)

  option_is : (i : ℕ) (d : Step K V) → i < length items → option_before a (i + 1) ≡ (get_or items i d).option
  option_is i d more =
      get_or-behind_first None a.options (i + 1) None (omega arith) ∙ same a.options ∙ get_or-map (λ (s : Step K V). s.option) items i d None more
    where
      same : (ws : List (Option V)) → get_or ws (i + 1 - 1) None ≡ get_or ws i None
      same ws = let n : i + 1 - 1 ≡ i = omega arith in ap (λ m. get_or ws m None) n

  -- a step of the left stays where the right has none
  stays : (i j : ℕ) (xs : List (Step K V)) (d : Step K V) → i < length items → j ≤ length b.keys → option_before b j ≡ None → IsBelowFrom order b.keys j (get_or items i d).key →
      Kept i j xs → Kept (i + 1) j (xs ++ get_or items i d ∷ [])
  stays i j xs d more j_in none below made =
      IsMadeUpTo-left order o E e f a b canonical.ascending b_up i j (omega (arith, more, length-keys items)) j_in (steps_of xs) (steps_of (xs ++ get_or items i d ∷ []))
      (get_or items i d).key (get_or items i d).option made
      (IsPut-behind order o E xs (get_or items i d).key (get_or items i d).option (length xs) refl other (get_or items i d).key (Equal-self o (get_or items i d).key) (xs ++ get_or items i d ∷ []) refl)
      (omega (arith, more, length-keys items)) (key_is i d more) below
      (ap₂ (λ p q. option_eq E (get_or items i d).option (f p q)) (option_is i d more) none
      ∙ ap (option_eq E (get_or items i d).option) (keeps (get_or items i d).option)
      ∙ (options_equiv e).refl (get_or items i d).option)
    where
      last : option_eq E (option_before (steps_of xs) (length (steps_of xs).options)) (option_before a i) ≡ true
      last =
          sym (ap (option_eq E (option_before (steps_of xs) (length (steps_of xs).options))) (ap (f (option_before a i)) none ∙ keeps (option_before a i)))
          ∙ made.last

      other : option_eq E (get_or (None ∷ (steps_of xs).options) (length xs) None) (get_or items i d).option ≡ false
      other =
          ap (λ n. option_eq E (get_or (None ∷ (steps_of xs).options) n None) (get_or items i d).option) (sym (length-options xs))
          ∙ (options_equiv e).congr (option_before (steps_of xs) (length (steps_of xs).options)) (option_before a i) (get_or items i d).option last
          ∙ ap (option_eq E (option_before a i)) (sym (option_is i d more))
          ∙ canonical.changes i None (omega (arith, more, length-options items))

  -- and so do many
  stay : (n i j : ℕ) (xs : List (Step K V)) → i + n ≤ length items → j ≤ length b.keys → (0 < n → option_before b j ≡ None) →
      AllWithin (IsBelowFrom order b.keys j) a.keys i (i + n) → Kept i j xs → Kept (i + n) j (xs ++ take n (drop i items))
  stay zero i j xs within j_in none below made =
      let same : i ≡ i + zero = omega arith in
      subst (λ (m : ℕ). Kept m j (xs ++ take zero (drop i items))) same (subst (λ ys. Kept i j ys) (sym (append-nil xs)) made)
  stay (suc n) i j xs within j_in none below made =
      let more : i < length items = omega (arith, within) in
      let d : Step K V = (item_at items i more).0 in
      let s : Step K V = get_or items i d in
      let next : suc i ≡ i + 1 = omega arith in
      let sum : i + 1 + n ≡ i + suc n = omega arith in
      let on : Kept (i + 1) j (xs ++ s ∷ []) =
      stays i j xs d more j_in (none (omega arith)) (subst (λ k. IsBelowFrom order b.keys j k) (sym (key_is i d more)) (below i s.key (omega arith) (omega arith))) made in
      let all : Kept (i + 1 + n) j ((xs ++ s ∷ []) ++ take n (drop (i + 1) items)) =
      stay n (i + 1) j (xs ++ s ∷ []) (omega (arith, within)) j_in (λ m. none (omega arith)) (λ m f low high. below m f (omega (arith, low)) (omega (arith, high))) on in
      let list : (xs ++ s ∷ []) ++ take n (drop (i + 1) items) ≡ xs ++ take (suc n) (drop i items) =
      append_assoc xs (s ∷ []) (take n (drop (i + 1) items))
      ∙ ap (λ zs. xs ++ zs) (sym (ap (take (suc n)) (drop-cons items i d more) ∙ ap (λ m. s ∷ take n (drop m items)) next)) in
      subst (λ ys. Kept (i + suc n) j ys) list (subst (λ (m : ℕ). Kept m j ((xs ++ s ∷ []) ++ take n (drop (i + 1) items))) sum all)

  -- those before the first key of the right
  pub kept-before : (n : ℕ) → n ≤ length items → AllWithin (IsBelowFrom order b.keys 0) a.keys 0 n → (list : List (Step K V)) → list ≡ [] → Kept n 0 (take n items ++ list)
  kept-before n within below list none =
      let sum : 0 + n ≡ n = omega arith in
      subst (λ ys. Kept n 0 ys) (sym (append-nil (take n items)) ∙ ap (λ zs. take n items ++ zs) (sym none))
      (subst (λ (m : ℕ). Kept m 0 (take n items)) sum
      (stay n 0 0 [] (omega (arith, within)) (omega arith) (λ m. refl)
      (λ m f low high. below m f low (omega (arith, high)))
      (IsMadeUpTo-nothing order o E e f a b (keeps None) (steps_of []) refl refl)))

  -- those behind the last one
  kept-behind : (n : ℕ) (xs : List (Step K V)) → n ≤ length items → (n < length items → option_before b (length b.keys) ≡ None) → Kept n (length b.keys) xs →
      Kept (length a.keys) (length b.keys) (xs ++ drop n items)
  kept-behind n xs within off made =
      let rest : n + (length items - n) ≡ length items = omega (arith, within) in
      let all : Kept (n + (length items - n)) (length b.keys) (xs ++ take (length items - n) (drop n items)) =
      stay (length items - n) n (length b.keys) xs (omega (arith, within)) (omega arith) (λ more. off (omega (arith, more))) (λ m f low high l g least most. absurd (omega (arith, least, most))) made in
      subst (λ ys. Kept (length a.keys) (length b.keys) ys) (ap (λ zs. xs ++ zs) (take_all (length items - n) (drop n items) (omega (arith, length-drop n items))))
      (subst (λ (m : ℕ). Kept m (length b.keys) (xs ++ take (length items - n) (drop n items))) (rest ∙ sym (length-keys items)) all)

  module _ (from to : ℕ) (list new : List (Step K V)) (put : new ≡ take from items ++ (list ++ drop to items)) (within : to ≤ length items)
      (off : to < length items → option_before b (length b.keys) ≡ None) (made : Kept to (length b.keys) (take from items ++ list)) where
    kept-all : Kept (length a.keys) (length b.keys) new
    kept-all =
        subst (λ ys. Kept (length a.keys) (length b.keys) ys) (append_assoc (take from items) list (drop to items) ∙ sym put)
        (kept-behind to (take from items ++ list) within off made)

    pub kept-canonical : IsCanonical order E (steps_of new)
    kept-canonical = kept-all.canonical

    pub kept-values : IsCombined order E f a b (steps_of new)
    kept-values x = IsCombined-made order o E e f a b (steps_of new) kept-all x

  -- of no steps of the right all stays
  pub kept-nothing : b.keys ≡ [] → (new : List (Step K V)) → new ≡ items → IsCombined order E f a b (steps_of new)
  kept-nothing none new same x =
      IsCombined-made order o E e f a b (steps_of new)
      (subst (λ ys. Kept (length a.keys) (length b.keys) ys) (sym same)
      (subst (λ (m : ℕ). Kept (length a.keys) m items) (sym (ap length none))
      (subst (λ (m : ℕ). Kept m 0 items) (sym (length-keys items))
      (subst (λ ys. Kept (length items) 0 ys) (append-nil (take (length items) items) ∙ take_all (length items) items (omega arith))
      (kept-before (length items) (omega arith) (λ i d low high m g least most. absurd (omega (arith, most, ap length none))) [] refl))))) x

-- what an operation makes of the map that has the unit on a range, is an update
pub updated-combined : {K V : Type 0} (order : K → K → Ordering) (o : IsTotalOrder order) (E : V → V → Bool) (F : Option V → Option V) (a r : Steps K V) (b : Steps K (Unit {0}))
    (start : K) (end : Option K) → ((z : K) → end ≡ Some z → order start z ≡ Less) → b ≡ unit_on start end → IsCombined order E (if_some F) a b r → IsUpdated order E start end F a r
updated-combined order o E F a r b start end some is all x =
    sym (ap (λ c. option_eq E (value_at order r x) (cond c (F (value_at order a x)) (value_at order a x)))
    (ap (λ (m : Steps _ (Unit {0})). is_some (value_at order m x)) is ∙ unit_on-range order o start end some x))
    ∙ all x

-- before a list that is empty stands what stands before the place
pub last-before : {K V : Type 0} (items : List (Step K V)) (n : ℕ) → n ≤ length items →
    get_or (None ∷ (steps_of items).options) n None ≡ option_before (steps_of (take n items)) (length (take n items))
last-before items n within =
    sym (get_or-take (suc n) (None ∷ (steps_of items).options) n None (omega arith))
    ∙ ap (λ ws. get_or (None ∷ ws) n None) (take-map (λ (s : Step _ _). s.option) n items)
    ∙ ap (λ m. get_or (None ∷ (steps_of (take n items)).options) m None) (sym (length-take-le n items within))

-- a list without a last item is empty
pub nothing-last : {X : Type 0} (xs : List X) → length xs ≤ length xs - 1 → xs ≡ []
nothing-last [] past = refl
nothing-last (x ∷ xs) past = absurd (omega (arith, past))

-- an operation that takes alike options to alike ones, of a map that is the same
pub IsCombined-same : {K V W : Type 0} (order : K → K → Ordering) (E : V → V → Bool) (e : IsEquivalence E) (f : Option V → Option W → Option V) →
    ((p p2 : Option V) (q : Option W) → AreAlike E p p2 → AreAlike E (f p q) (f p2 q)) → (a a2 : Steps K V) (b : Steps K W) (r : Steps K V) → IsSameMap order E a a2 → IsCombined order E f a2 b r → IsCombined order E f a b r
IsCombined-same order E e f alike a a2 b r same all x =
    let made = f (value_at order a x) (value_at order b x) in
    let other = f (value_at order a2 x) (value_at order b x) in
    (options_equiv e).symm (value_at order r x) made
    ∙ (options_equiv e).congr made other (value_at order r x) (alike (value_at order a x) (value_at order a2 x) (value_at order b x) (same x))
    ∙ (options_equiv e).symm other (value_at order r x)
    ∙ all x

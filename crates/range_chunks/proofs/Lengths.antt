-- How many items a connective changes at, counted boundary by boundary of the right list.
use Rattle.std.proofs.Common.{◌≡◌, ap, ap₂, sym, ◌∙◌, subst, refl, inl, inr, ℕ, zero, suc, ◌+◌, ◌<◌, ◌≤◌, ◌-◌, Bool, true, false, not, cond, List, [], ◌∷◌, ◌++◌, map, length, take, drop, get_or, arith, All, length-append, length-drop, get_or-drop}
use Rattle.std.specs.List.{AllWithin, HoldsAt}
use Rattle.std.specs.Ordering.{is_le}
use Rattle.std.proofs.lemmas.Bool.{cases_lt}
use Rattle.std.proofs.lemmas.List.Elements.{All-head, All-tail, All-weaker}
use Rattle.std.specs.Cmp.{IsTotalOrder}
use Rattle.std.proofs.lemmas.List.{length-take-le, length-map, take_all, append-nil}
use Rattle.std.specs.declared.cmp.Ordering.{Ordering}
use Rattle.std.specs.declared.cmp.Ordering.TheVariants.{Less, Equal, Greater}
use Rattle.range_merge.specs.Boundaries.{IsAscending, is_odd}
use Rattle.range_merge.specs.Changes.{Taken, from_left, taken_left, changes}
use Rattle.range_merge.specs.Connective.{Table, differ}
use Rattle.range_merge.specs.Owners.{Owner, left_only, right_only, shared, owners}
use Rattle.range_merge.specs.Walk.{walk}
use Rattle.range_chunks.specs.Lengths.{remaining}
use Rattle.range_merge.proofs.ChangesLemmas.{changes-walk}
use Rattle.range_merge.proofs.FirstRuns.{FirstBoth, first_both}
use Rattle.range_merge.proofs.OwnersLemmas.{IsOwners-owners, IsOwners-map_right_only}
use Rattle.range_merge.proofs.OwnersUnique.{owners-unique}
use Rattle.range_merge.proofs.Members.{by_Ordering}
use Rattle.range_merge.proofs.Orders.{Greater-from_less, Less-from_greater, Less-trans, Less-then_equal, Less-from_equal, Equal-self}
use Rattle.range_merge.proofs.Pairs.{AllPairs-head, AllPairs-tail, AllPairs-drop}
use Rattle.range_merge.proofs.RunsFound.{owners-left, owners-right, runs-both}
use Rattle.range_merge.proofs.WalkLemmas.{walk-left}
use Rattle.range_merge.proofs.Parity.{differ-comm, is_odd-add, is_odd-suc}

flip : (g : Bool → Bool) (c : Bool) → differ (g c) (g (not c)) ≡ differ (g false) (g true)
flip g true = differ-comm (g true) (g false)
flip g false = refl

length-cond_one : {X : Type 0} (d : Bool) (t : X) (ts : List X) → length (cond d (t ∷ ts) ts) ≡ cond d 1 0 + length ts
length-cond_one true t ts = omega arith
length-cond_one false t ts = omega arith

module _ {K : Type 0} where
  length-taken_left : (d : Bool) (n : ℕ) (items : List K) → n ≤ length items → length (taken_left d n items) ≡ cond d n 0
  length-taken_left true n items within = length-map (take n items) from_left ∙ length-take-le n items within
  length-taken_left false n items within = refl

module _ {K : Type 0} {order : K → K → Ordering} (o : IsTotalOrder order) (f : Table) where
  pub remaining-all : (a b : List K) → IsAscending order a → IsAscending order b → length (changes order f a b) ≡ remaining order f false false a b
  remaining-all a b up vp = ap length (changes-walk o f a b (IsOwners-owners o a b up vp))

  pub remaining-none : (ac bc : Bool) (a : List K) → remaining order f ac bc a [] ≡ cond (differ (f false bc) (f true bc)) (length a) 0
  unfolding owners
  remaining-none ac bc a =
      let os : List (Owner K) = map left_only (take (length a) a) ++ [] in
      let all : map left_only a ≡ os = ap (map left_only) (sym (take_all (length a) a (omega arith))) ∙ sym (append-nil (map left_only (take (length a) a))) in
      ap (λ ps. length (walk f ac bc ps)) all
      ∙ ap length (walk-left f ac bc (length a) a [] (omega arith))
      ∙ length-append (taken_left (differ (f false bc) (f true bc)) (length a) a) []
      ∙ ap (λ n. n + 0) (length-taken_left (differ (f false bc) (f true bc)) (length a) a (omega arith))
      ∙ omega arith

  module _ (a : List K) (y : K) (ys : List K) (up : IsAscending order a) (vp : IsAscending order (y ∷ ys)) (ac bc : Bool) where
    owners-front : (n : ℕ) → n ≤ length a → AllWithin (λ z. order z y ≡ Less) a 0 n → owners order a (y ∷ ys) ≡ map left_only (take n a) ++ owners order (drop n a) (y ∷ ys)
    owners-front zero within before = refl
    owners-front (suc n) within before =
        owners-left o a (y ∷ ys) up vp (suc n) within (omega arith) (λ d. before (suc n - 1) d (omega arith) (omega arith))

    -- those of the left that are below the first of the right
    pub remaining-front : (n : ℕ) → n ≤ length a → AllWithin (λ z. order z y ≡ Less) a 0 n →
        remaining order f ac bc a (y ∷ ys) ≡ cond (differ (f false bc) (f true bc)) n 0 + remaining order f (differ ac (is_odd n)) bc (drop n a) (y ∷ ys)
    remaining-front n within before =
        ap (λ os. length (walk f ac bc os)) (owners-front n within before)
        ∙ ap length (walk-left f ac bc n a (owners order (drop n a) (y ∷ ys)) within)
        ∙ length-append (taken_left (differ (f false bc) (f true bc)) n a) (walk f (differ ac (is_odd n)) bc (owners order (drop n a) (y ∷ ys)))
        ∙ ap (λ k. k + remaining order f (differ ac (is_odd n)) bc (drop n a) (y ∷ ys)) (length-taken_left (differ (f false bc) (f true bc)) n a within)

    -- the first of each are equal
    pub remaining-shared : 0 < length a → ((d : K) → order (get_or a 0 d) y ≡ Equal) →
        remaining order f ac bc a (y ∷ ys) ≡ cond (differ (f ac bc) (f (not ac) (not bc))) 1 0 + remaining order f (not ac) (not bc) (drop 1 a) ys
    remaining-shared some same =
        let both = first_both o a (y ∷ ys) up vp (runs-both o a (y ∷ ys) up vp some (omega arith) same) in
        ap (λ os. length (walk f ac bc os)) both.owners_are
        ∙ length-cond_one (differ (f ac bc) (f (not ac) (not bc))) (from_left both.left_item) (walk f (not ac) (not bc) (owners order (drop 1 a) ys))

    -- the first of the right is below all of the left
    owners-first : AllWithin (λ z. order y z ≡ Less) a 0 (length a) → owners order a (y ∷ ys) ≡ right_only y ∷ owners order a ys
    owners-first above = by_first a above up
      where
        tail_up : IsAscending order ys
        tail_up = AllPairs-tail (λ x y. order x y ≡ Less) y ys vp

        by_first : (xs : List K) → AllWithin (λ z. order y z ≡ Less) xs 0 (length xs) → IsAscending order xs → owners order xs (y ∷ ys) ≡ right_only y ∷ owners order xs ys
        by_first [] high xp =
            sym (owners-unique o [] (y ∷ ys) (map right_only (y ∷ ys)) (IsOwners-map_right_only order (y ∷ ys) vp))
            ∙ ap (λ (os : List (Owner K)). right_only y ∷ os) (owners-unique o [] ys (map right_only ys) (IsOwners-map_right_only order ys tail_up))
        by_first (x ∷ xs) high xp = owners-right o (x ∷ xs) (y ∷ ys) xp vp 1 (omega arith) (omega arith) (λ d. high 0 d (omega arith) (omega arith))

    pub remaining-right : AllWithin (λ z. order y z ≡ Less) a 0 (length a) →
        remaining order f ac bc a (y ∷ ys) ≡ cond (differ (f ac false) (f ac true)) 1 0 + remaining order f ac (not bc) a ys
    remaining-right above =
        ap (λ os. length (walk f ac bc os)) (owners-first above)
        ∙ length-cond_one (differ (f ac bc) (f ac (not bc))) _ (walk f ac (not bc) (owners order a ys))
        ∙ ap (λ b. cond b 1 0 + remaining order f ac (not bc) a ys) (flip (f ac) bc)

drop-nil : {K : Type 0} (n : ℕ) → drop {A = K} n [] ≡ []
drop-nil zero = refl
drop-nil (suc n) = refl

drop-twice : {K : Type 0} (m n : ℕ) (xs : List K) → drop n (drop m xs) ≡ drop (m + n) xs
drop-twice zero n xs = let e : n ≡ 0 + n = omega arith in ap (λ k. drop k xs) e
drop-twice (suc m) n [] = drop-nil n ∙ sym (drop-nil (suc m + n))
drop-twice (suc m) n (x ∷ xs) = let e : suc (m + n) ≡ suc m + n = omega arith in drop-twice m n xs ∙ ap (λ k. drop k (x ∷ xs)) e

is_odd-next : (n : ℕ) → is_odd (n + 1) ≡ not (is_odd n)
is_odd-next n = let e : n + 1 ≡ suc n = omega arith in ap is_odd e ∙ is_odd-suc n

module _ {K : Type 0} {order : K → K → Ordering} (o : IsTotalOrder order) (own : List K) (up : IsAscending order own) (y : K) where
  module _ (i : ℕ) (before : AllWithin (λ z. order z y ≡ Less) own 0 i) where
    -- what isn't below stands at that place or later
    later : (m : ℕ) → m < length own → ((d : K) → order (get_or own m d) y ≡ Less → ⊥) → i ≤ m
    later m within never =
        elim (cases_lt m i) as (λ _. i ≤ m) [
          | inl low ↦ absurd (never y (before m y (omega arith) low))
          | inr fine ↦ fine
        ]

    pub later-found : (m : ℕ) → m < length own → HoldsAt (λ z. order z y ≡ Equal) own m → i ≤ m
    later-found m within same =
        later m within (λ d less. let e = same d in absurd (cc))

    pub later-missing : (m : ℕ) → i ≤ length own → m ≤ length own → AllWithin (λ z. order z y ≡ Greater) own m (length own) → i ≤ m
    later-missing m low within from =
        elim (cases_lt m (length own)) as (λ _. i ≤ m) [
          | inl some ↦ later m some (λ d less. let e = from m d (omega arith) some in absurd (cc))
          | inr all ↦ omega (arith, low, all)
        ]

  -- what stands before an item is below all that equals it
  pub before-found : (m : ℕ) → m < length own → HoldsAt (λ z. order z y ≡ Equal) own m → AllWithin (λ z. order z y ≡ Less) own 0 m
  before-found m within same k d low high = Less-then_equal o (get_or own k d) (get_or own m d) y (up k m d high within) (same d)

  module _ (f : Table) (ys : List K) (vp : IsAscending order (y ∷ ys)) (bc : Bool) (i m : ℕ) (ordered : i ≤ m) (within : m ≤ length own)
      (before : AllWithin (λ z. order z y ≡ Less) own 0 m) where
    moved : {X : Type 0} (g : Bool → List K → X) → g (differ (is_odd i) (is_odd (m - i))) (drop (m - i) (drop i own)) ≡ g (is_odd m) (drop m own)
    moved g =
        let e : i + (m - i) ≡ m = omega (arith, ordered) in
        ap₂ g (sym (is_odd-add i (m - i)) ∙ ap is_odd e) (drop-twice i (m - i) own ∙ ap (λ k. drop k own) e)

    to-there : remaining order f (is_odd i) bc (drop i own) (y ∷ ys) ≡ cond (differ (f false bc) (f true bc)) (m - i) 0 + remaining order f (is_odd m) bc (drop m own) (y ∷ ys)
    to-there =
        remaining-front o f (drop i own) y ys (AllPairs-drop (λ x z. order x z ≡ Less) i own up) vp (is_odd i) bc (m - i) (omega (arith, within, length-drop i own))
        (λ k d low high. rw (get_or-drop i own k d) (before (i + k) d (omega arith) (omega (arith, high, ordered))))
        ∙ ap (λ n. cond (differ (f false bc) (f true bc)) (m - i) 0 + n) (moved (λ ac rest. remaining order f ac bc rest (y ∷ ys)))

    pub counted-shared : m < length own → HoldsAt (λ z. order z y ≡ Equal) own m →
        remaining order f (is_odd i) bc (drop i own) (y ∷ ys)
        ≡ (cond (differ (f false bc) (f true bc)) (m - i) 0 + cond (differ (f (is_odd m) bc) (f (not (is_odd m)) (not bc))) 1 0) + remaining order f (is_odd (m + 1)) (not bc) (drop (m + 1) own) ys
    counted-shared some same =
        to-there
        ∙ ap (λ n. cond (differ (f false bc) (f true bc)) (m - i) 0 + n)
        (remaining-shared o f (drop m own) y ys (AllPairs-drop (λ x z. order x z ≡ Less) m own up) vp (is_odd m) bc (omega (arith, some, length-drop m own))
        (λ d. let e : m + 0 ≡ m = omega arith in rw (get_or-drop m own 0 d, e) (same d))
        ∙ ap (λ n. cond (differ (f (is_odd m) bc) (f (not (is_odd m)) (not bc))) 1 0 + n)
        (ap₂ (λ ac rest. remaining order f ac (not bc) rest ys) (sym (is_odd-next m)) (drop-twice m 1 own)))
        ∙ omega arith

    pub counted-missing : AllWithin (λ z. order z y ≡ Greater) own m (length own) →
        remaining order f (is_odd i) bc (drop i own) (y ∷ ys)
        ≡ (cond (differ (f false bc) (f true bc)) (m - i) 0 + cond (differ (f (is_odd m) false) (f (is_odd m) true)) 1 0) + remaining order f (is_odd m) (not bc) (drop m own) ys
    counted-missing from =
        to-there
        ∙ ap (λ n. cond (differ (f false bc) (f true bc)) (m - i) 0 + n)
        (remaining-right o f (drop m own) y ys (AllPairs-drop (λ x z. order x z ≡ Less) m own up) vp (is_odd m) bc
        (λ k d low high. rw (get_or-drop m own k d) (Less-from_greater o (get_or own (m + k) d) y (from (m + k) d (omega arith) (omega (arith, high, length-drop m own))))))
        ∙ omega arith

    -- what stands before the place is below the later ones
    pub before-later : All (λ t. AllWithin (λ z. order z t ≡ Less) own 0 m) ys
    before-later j d less k e low high = Less-trans o (get_or own k e) y (get_or ys j d) (before k e low high) (AllPairs-head (λ x z. order x z ≡ Less) y ys vp j d less)

    pub before-later_found : HoldsAt (λ z. order z y ≡ Equal) own m → All (λ t. AllWithin (λ z. order z t ≡ Less) own 0 (m + 1)) ys
    before-later_found same j d less k e low high =
        let next : order y (get_or ys j d) ≡ Less = AllPairs-head (λ x z. order x z ≡ Less) y ys vp j d less in
        elim (cases_lt k m) as (λ _. order (get_or own k e) (get_or ys j d) ≡ Less) [
          | inl front ↦ Less-trans o (get_or own k e) y (get_or ys j d) (before k e low front) next
          | inr there ↦
              let at : k ≡ m = omega (arith, there, high) in
              subst (λ n. order (get_or own n e) (get_or ys j d) ≡ Less) (sym at) (Less-from_equal o (get_or own m e) y (get_or ys j d) (same e) next)
        ]

-- the rest of the left, where none of the right is left
pub counted-rest : {K : Type 0} {order : K → K → Ordering} (o : IsTotalOrder order) (f : Table) (own ys : List K) (i n : ℕ) (bc taken : Bool) → ys ≡ [] → i ≤ length own → n ≡ length own → taken ≡ differ (f false bc) (f true bc) →
    remaining order f (is_odd i) bc (drop i own) ys ≡ cond taken (n - i) 0
counted-rest {order = order} o f own ys i n bc taken none within all is =
    ap (λ zs. remaining order f (is_odd i) bc (drop i own) zs) none
    ∙ remaining-none o f (is_odd i) bc (drop i own)
    ∙ ap₂ (λ t k. cond t k 0) (sym is) (length-drop i own ∙ ap (λ k. k - i) (sym all))

-- The first run of two lists from places on: its keys are below the unread ones of the other side,
-- and what it weighs.
use Rattle.std.proofs.Common.{◌≡◌, ℕ, ◌+◌, ◌-◌, ◌<◌, ◌≤◌, Some, List, [], ◌∷◌, ◌++◌, take, drop, length, get_or, slice_get, map, subst, sym, ap, ap₂, ◌∙◌, arith, All, AllPairs, get_or-take, get_or-drop, length-drop}
use Rattle.std.proofs.lemmas.List.{length-take-le, drop-drop}
use Rattle.std.specs.Cmp.{IsTotalOrder}
use Rattle.std.specs.List.{AllWithin}
use Rattle.std.proofs.lemmas.List.Elements.{All-cons, All-head, All-tail}
use Rattle.std.specs.declared.cmp.Ordering.{Ordering}
use Rattle.std.specs.declared.cmp.Ordering.TheVariants.{Less}
use Rattle.range_merge.specs.Boundaries.{IsAscending}
use Rattle.range_merge.specs.Owners.{Owner, left_only, right_only, shared, item_of, left_items, right_items, owners, IsShare, IsOwners}
use Rattle.range_merge.specs.Runs.{runs, run_len, weight, digits}
use Rattle.range_merge.specs.declared.runs.Run.{Run}
use Rattle.range_merge.specs.declared.runs.Run.TheVariants.{Left, Right, Both}
use Rattle.range_merge.proofs.FirstRuns.{FirstLeft, FirstRight, FirstBoth, first_left, first_right, first_both, digits-one}
use Rattle.range_merge.proofs.Orders.{Less-then_equal}
use Rattle.range_merge.proofs.OwnersLemmas.{IsOwners-owners}
use Rattle.range_merge.proofs.Pairs.{AllPairs-head, AllPairs-tail, AllPairs-drop}
use Rattle.range_map.specs.Combining.{left_len, right_len, IsRun}

module _ {X : Type 0} where
  All-right : (P : X → Type 0) (xs ys : List X) → All P (xs ++ ys) → All P ys
  All-right P [] ys h = h
  All-right P (x ∷ xs) ys h = All-right P xs ys (All-tail P x (xs ++ ys) h)

  AllPairs-across : (R : X → X → Type 0) (xs ys : List X) → AllPairs R (xs ++ ys) → All (λ x. All (R x) ys) xs
  AllPairs-across R [] ys h = λ i d within. absurd (omega (arith, within))
  AllPairs-across R (x ∷ xs) ys h =
      All-cons (λ x. All (R x) ys) x xs (All-right (R x) xs ys (AllPairs-head R x (xs ++ ys) h)) (AllPairs-across R xs ys (AllPairs-tail R x (xs ++ ys) h))

  All-unmap : {Y : Type 0} (f : X → Y) (P : Y → Type 0) (xs : List X) → All P (map f xs) → All (λ x. P (f x)) xs
  All-unmap f P [] h = λ i d within. absurd (omega (arith, within))
  All-unmap f P (x ∷ xs) h =
      All-cons (λ x. P (f x)) x xs (All-head P (f x) (map f xs) h) (All-unmap f P xs (All-tail P (f x) (map f xs) h))

  -- what holds of a list from a place on, and of a number of items from there
  AllWithin-drop : (P : X → Type 0) (n : ℕ) (xs : List X) → All P (drop n xs) → AllWithin P xs n (length xs)
  AllWithin-drop P n xs h k d low high =
      let e : n + (k - n) ≡ k = omega (arith, low) in
      subst P (get_or-drop n xs (k - n) d ∙ ap (λ i. get_or xs i d) e) (h (k - n) d (omega (arith, low, high, length-drop n xs)))

  AllWithin-take_drop : (P : X → Type 0) (m n : ℕ) (xs : List X) → n + m ≤ length xs → All P (take m (drop n xs)) → AllWithin P xs n (n + m)
  AllWithin-take_drop P m n xs within h k d low high =
      let e : n + (k - n) ≡ k = omega (arith, low) in
      let less : k - n < m = omega (arith, low, high) in
      subst P (get_or-take m (drop n xs) (k - n) d less ∙ get_or-drop n xs (k - n) d ∙ ap (λ i. get_or xs i d) e)
      (h (k - n) d (omega (arith, less, length-take-le m (drop n xs) (omega (arith, within, length-drop n xs)))))

module _ {K : Type 0} (order : K → K → Ordering) (o : IsTotalOrder order) where
  rights_above : (z : K) (os : List (Owner K)) → All (λ p. order z (item_of p) ≡ Less) os → All (IsShare order) os → All (λ y. order z y ≡ Less) (right_items os)
  rights_above z [] h s = λ i d within. absurd (omega (arith, within))
  rights_above z (left_only x ∷ os) h s = rights_above z os (All-tail (λ p. order z (item_of p) ≡ Less) (left_only x) os h) (All-tail (IsShare order) (left_only x) os s)
  rights_above z (right_only y ∷ os) h s =
      All-cons (λ y. order z y ≡ Less) y (right_items os) (All-head (λ p. order z (item_of p) ≡ Less) (right_only y) os h)
      (rights_above z os (All-tail (λ p. order z (item_of p) ≡ Less) (right_only y) os h) (All-tail (IsShare order) (right_only y) os s))
  rights_above z (shared x y ∷ os) h s =
      All-cons (λ y. order z y ≡ Less) y (right_items os)
      (Less-then_equal o z x y (All-head (λ p. order z (item_of p) ≡ Less) (shared x y) os h) (All-head (IsShare order) (shared x y) os s))
      (rights_above z os (All-tail (λ p. order z (item_of p) ≡ Less) (shared x y) os h) (All-tail (IsShare order) (shared x y) os s))

  lefts_above : (z : K) (os : List (Owner K)) → All (λ p. order z (item_of p) ≡ Less) os → All (λ y. order z y ≡ Less) (left_items os)
  lefts_above z [] h = λ i d within. absurd (omega (arith, within))
  lefts_above z (left_only x ∷ os) h =
      All-cons (λ y. order z y ≡ Less) x (left_items os) (All-head (λ p. order z (item_of p) ≡ Less) (left_only x) os h)
      (lefts_above z os (All-tail (λ p. order z (item_of p) ≡ Less) (left_only x) os h))
  lefts_above z (right_only y ∷ os) h = lefts_above z os (All-tail (λ p. order z (item_of p) ≡ Less) (right_only y) os h)
  lefts_above z (shared x y ∷ os) h =
      All-cons (λ y. order z y ≡ Less) x (left_items os) (All-head (λ p. order z (item_of p) ≡ Less) (shared x y) os h)
      (lefts_above z os (All-tail (λ p. order z (item_of p) ≡ Less) (shared x y) os h))

  module _ (a b : List K) (up : IsAscending order a) (vp : IsAscending order b) where
    abbrev R : Owner K → Owner K → Type 0
    R p q = order (item_of p) (item_of q) ≡ Less

    all : IsOwners order a b (owners order a b)
    all = IsOwners-owners o a b up vp

    left_run_below : (n : ℕ) → FirstLeft order a b n → All (λ x. All (λ y. order x y ≡ Less) b) (take n a)
    left_run_below n first i d within =
        let z = get_or (take n a) i d in
        let rest = owners order (drop n a) b in
        let later : IsOwners order (drop n a) b rest = IsOwners-owners o (drop n a) b (AllPairs-drop (λ x y. order x y ≡ Less) n a up) vp in
        let ascend : AllPairs R (map left_only (take n a) ++ rest) = subst (λ os. AllPairs R os) first.owners_are all.ascend in
        let across = All-unmap left_only (λ p. All (R p) rest) (take n a) (AllPairs-across R (map left_only (take n a)) rest ascend) in
        subst (λ ys. All (λ y. order z y ≡ Less) ys) later.rights (rights_above z rest (across i d within) later.equal)

    right_run_below : (n : ℕ) → FirstRight order a b n → All (λ y. All (λ x. order y x ≡ Less) a) (take n b)
    right_run_below n first i d within =
        let z = get_or (take n b) i d in
        let rest = owners order a (drop n b) in
        let later : IsOwners order a (drop n b) rest = IsOwners-owners o a (drop n b) up (AllPairs-drop (λ x y. order x y ≡ Less) n b vp) in
        let ascend : AllPairs R (map right_only (take n b) ++ rest) = subst (λ os. AllPairs R os) first.owners_are all.ascend in
        let across = All-unmap right_only (λ p. All (R p) rest) (take n b) (AllPairs-across R (map right_only (take n b)) rest ascend) in
        subst (λ ys. All (λ x. order z x ≡ Less) ys) later.lefts (lefts_above z rest (across i d within))

  first_of : (xs : List K) (n : ℕ) (d : K) → get_or xs n d ≡ get_or (drop n xs) 0 d
  first_of xs n d = let e : n + 0 ≡ n = omega arith in sym (get_or-drop n xs 0 d ∙ ap (λ m. get_or xs m d) e)

  module _ (a b : List K) (up : IsAscending order a) (vp : IsAscending order b) (i j : ℕ) (i_in : i < length a) (j_in : j < length b) where
    abbrev R2 : K → K → Type 0
    R2 x y = order x y ≡ Less

    up_i : IsAscending order (drop i a)
    up_i = AllPairs-drop R2 i a up

    vp_j : IsAscending order (drop j b)
    vp_j = AllPairs-drop R2 j b vp

    pub IsRun-first : (run : Run) → slice_get (runs order (drop i a) (drop j b)) 0 ≡ Some run → IsRun order a i b j run
    IsRun-first (Left n) e =
        let first : FirstLeft order (drop i a) (drop j b) n = first_left o (drop i a) (drop j b) up_i vp_j n e in
        let within : i + n ≤ length a = omega (arith, first.within, length-drop i a, i_in) in
        let below = AllWithin-take_drop (λ x. All (λ y. order x y ≡ Less) (drop j b)) n i a within (left_run_below (drop i a) (drop j b) up_i vp_j n first) in
        (within, λ k d low high. AllWithin-drop (λ y. order (get_or a k d) y ≡ Less) j b (below k d low high))
    IsRun-first (Right n) e =
        let first : FirstRight order (drop i a) (drop j b) n = first_right o (drop i a) (drop j b) up_i vp_j n e in
        let within : j + n ≤ length b = omega (arith, first.within, length-drop j b, j_in) in
        let below = AllWithin-take_drop (λ y. All (λ x. order y x ≡ Less) (drop i a)) n j b within (right_run_below (drop i a) (drop j b) up_i vp_j n first) in
        (within, λ k d low high. AllWithin-drop (λ x. order (get_or b k d) x ≡ Less) i a (below k d low high))
    IsRun-first Both e =
        let first : FirstBoth order (drop i a) (drop j b) = first_both o (drop i a) (drop j b) up_i vp_j e in
        let owned : IsOwners order (drop i a) (drop j b) (owners order (drop i a) (drop j b)) = IsOwners-owners o (drop i a) (drop j b) up_i vp_j in (
          i_in,
          j_in,
          λ d f.
              ap₂ order (first_of a i d ∙ ap (λ xs. get_or xs 0 d) first.left_is)
              (first_of b j f ∙ ap (λ xs. get_or xs 0 f) (sym owned.rights ∙ ap right_items first.owners_are))
              ∙ first.equal,
        )

    pub some-first : (run : Run) → slice_get (runs order (drop i a) (drop j b)) 0 ≡ Some run → 0 < left_len run + right_len run
    some-first (Left n) e = let first : FirstLeft order (drop i a) (drop j b) n = first_left o (drop i a) (drop j b) up_i vp_j n e in omega (arith, first.some)
    some-first (Right n) e = let first : FirstRight order (drop i a) (drop j b) n = first_right o (drop i a) (drop j b) up_i vp_j n e in omega (arith, first.some)
    some-first Both e = omega arith

    pub weighs-first : (run : Run) → slice_get (runs order (drop i a) (drop j b)) 0 ≡ Some run →
        weight order (drop i a) (drop j b) ≡ digits (run_len run) + weight order (drop (i + left_len run) a) (drop (j + right_len run) b)
    weighs-first (Left n) e =
        let first : FirstLeft order (drop i a) (drop j b) n = first_left o (drop i a) (drop j b) up_i vp_j n e in
        let same : j ≡ j + 0 = omega arith in
        first.weight_is ∙ ap₂ (λ ks ls. digits n + weight order ks ls) (drop-drop n i a) (ap (λ m. drop m b) same)
    weighs-first (Right n) e =
        let first : FirstRight order (drop i a) (drop j b) n = first_right o (drop i a) (drop j b) up_i vp_j n e in
        let same : i ≡ i + 0 = omega arith in
        first.weight_is ∙ ap₂ (λ ks ls. digits n + weight order ks ls) (ap (λ m. drop m a) same) (drop-drop n j b)
    weighs-first Both e =
        let first : FirstBoth order (drop i a) (drop j b) = first_both o (drop i a) (drop j b) up_i vp_j e in
        first.weight_is ∙ ap₂ (λ n w. n + w) (sym digits-one) (ap₂ (λ ks ls. weight order ks ls) (drop-drop 1 i a) (drop-drop 1 j b))

pub left_len-within : {K : Type 0} (order : K → K → Ordering) (a b : List K) (i j : ℕ) (run : Run) → i ≤ length a → IsRun order a i b j run → i + left_len run ≤ length a
left_len-within order a b i j (Left n) within h = h.0
left_len-within order a b i j (Right n) within h = omega (arith, within)
left_len-within order a b i j Both within h = omega (arith, h.0)

pub right_len-within : {K : Type 0} (order : K → K → Ordering) (a b : List K) (i j : ℕ) (run : Run) → j ≤ length b → IsRun order a i b j run → j + right_len run ≤ length b
right_len-within order a b i j (Left n) within h = omega (arith, within)
right_len-within order a b i j (Right n) within h = h.0
right_len-within order a b i j Both within h = omega (arith, h.1)

-- How the first run of two lists that ascend is known from a few comparisons.
--     runs-left, runs-right           a run's items stand before the other list's first, and the next does not
--     runs-both                       the first of each are equal
--     runs-left_all, runs-right_all   the other list is empty
use Rattle.std.proofs.Common.{◌≡◌, refl, ap, sym, ◌∙◌, subst, ℕ, zero, suc, ◌-◌, ◌<◌, ◌≤◌, List, [], ◌∷◌, ◌++◌, length, map, take, drop, get_or, slice_get, Some, All, inl, inr, eq-or-lt_of_le, append-nil, length-take-le, length-drop, get_or-drop, add-zero, arith}
use Rattle.std.specs.Cmp.{IsTotalOrder}
use Rattle.std.proofs.lemmas.List.{drop_all}
use Rattle.std.proofs.lemmas.List.Elements.{All-nil, All-cons, All-weaker}
use Rattle.std.specs.declared.cmp.Ordering.{Ordering}
use Rattle.std.specs.declared.cmp.Ordering.TheVariants.{Less, Equal}
use Rattle.range_merge.specs.Boundaries.{IsAscending}
use Rattle.range_merge.specs.Owners.{Owner, left_only, right_only, shared, IsOwners, owners}
use Rattle.range_merge.specs.Runs.{runs_of, runs}
use Rattle.range_merge.specs.declared.runs.Run.{Run}
use Rattle.range_merge.specs.declared.runs.Run.TheVariants.{Left, Right, Both}
use Rattle.range_merge.proofs.Orders.{Less-trans, Less-from_equal}
use Rattle.range_merge.proofs.Pairs.{AllPairs-head, AllPairs-tail, AllPairs-drop}
use Rattle.range_merge.proofs.OwnersLemmas.{Above, IsGood-from_owners, IsOwners-nil, IsOwners-left_only, IsOwners-right_only, IsOwners-shared, IsOwners-below, IsOwners-owners}
use Rattle.range_merge.proofs.OwnersUnique.{owners-unique, left_items-above_first, right_items-above_first}
use Rattle.range_merge.proofs.RunsLemmas.{NotLeft, NotRight, joined-left_right, joined-right_left, runs_of-map_left_only, runs_of-map_right_only}

module _ {K : Type 0} {order : K → K → Ordering} (o : IsTotalOrder order) where
  -- an item below the first of some that ascend is below each of them
  All-above_first : (x : K) (ys : List K) → 0 < length ys → IsAscending order ys → ((d : K) → order x (get_or ys 0 d) ≡ Less) →
      All (Above order x) ys
  All-above_first x [] some up h = absurd (omega arith)
  All-above_first x (y ∷ ys) some up h =
      All-cons (Above order x) y ys (h x)
      (All-weaker (Above order y) (Above order x) (λ z k. Less-trans o x y z (h x) k) ys (AllPairs-head (Above order) y ys up))

  -- where the n-th item stands below z, so do the ones before it
  before-below : (xs : List K) (n k : ℕ) (z d : K) → IsAscending order xs → k < n → n ≤ length xs →
      order (get_or xs (n - 1) d) z ≡ Less → order (get_or xs k d) z ≡ Less
  before-below xs n k z d up within some h =
      let below : k ≤ n - 1 = omega arith in
      elim (eq-or-lt_of_le below) as (λ _. order (get_or xs k d) z ≡ Less) [
        | inl e ↦ rw e h
        | inr l ↦ Less-trans o (get_or xs k d) (get_or xs (n - 1) d) z (up k (n - 1) d l (omega arith)) h
      ]

  -- the first n of xs are below all of ys
  before-all : (xs ys : List K) (n k : ℕ) (d : K) → IsAscending order xs → IsAscending order ys → 0 < length ys → n ≤ length xs → k < n →
      ((e : K) → order (get_or xs (n - 1) e) (get_or ys 0 e) ≡ Less) → All (Above order (get_or xs k d)) ys
  before-all xs [] n k d up vp some within l h = absurd (omega arith)
  before-all xs (y ∷ ys) n k d up vp some within l h =
      All-above_first (get_or xs k d) (y ∷ ys) some vp (λ e. before-below xs n k y d up l within (h d))

  -- items of the left that stand below b, before the owners of the rest
  IsOwners-take_left : (n : ℕ) (a b : List K) (os : List (Owner K)) → IsAscending order a → n ≤ length a →
      ((k : ℕ) (d : K) → k < n → All (Above order (get_or a k d)) b) →
      IsOwners order (drop n a) b os → IsOwners order a b (map left_only (take n a) ++ os)
  IsOwners-take_left zero a b os up within below h = h
  IsOwners-take_left (suc n) [] b os up within below h = absurd (omega arith)
  IsOwners-take_left (suc n) (x ∷ a) b os up within below h =
      let rest = IsOwners-take_left n a b os (AllPairs-tail (Above order) x a up) (omega arith) (λ k d l. below (suc k) d (omega arith)) h in
      IsOwners-left_only order x a b (map left_only (take n a) ++ os)
      (IsOwners-below order x a b (map left_only (take n a) ++ os) rest (AllPairs-head (Above order) x a up) (below 0 x (omega arith))) rest

  IsOwners-take_right : (n : ℕ) (a b : List K) (os : List (Owner K)) → IsAscending order b → n ≤ length b →
      ((k : ℕ) (d : K) → k < n → All (Above order (get_or b k d)) a) →
      IsOwners order a (drop n b) os → IsOwners order a b (map right_only (take n b) ++ os)
  IsOwners-take_right zero a b os up within below h = h
  IsOwners-take_right (suc n) a [] os up within below h = absurd (omega arith)
  IsOwners-take_right (suc n) a (y ∷ b) os up within below h =
      let rest = IsOwners-take_right n a b os (AllPairs-tail (Above order) y b up) (omega arith) (λ k d l. below (suc k) d (omega arith)) h in
      IsOwners-right_only order y a b (map right_only (take n b) ++ os)
      (IsOwners-below order y a b (map right_only (take n b) ++ os) rest (below 0 y (omega arith)) (AllPairs-head (Above order) y b up)) rest

  -- where the left's first does not stand below the right's, the owners begin with none of the left
  NotLeft-from_first : (a b : List K) (os : List (Owner K)) → IsOwners order a b os → 0 < length b →
      ((d : K) → 0 < length a → order (get_or a 0 d) (get_or b 0 d) ≡ Less → ⊥) → NotLeft os
  unfolding runs_of
  NotLeft-from_first a b [] h some stops = λ x. refl
  NotLeft-from_first a b (right_only y ∷ os) h some stops = λ x. joined-left_right x y (runs_of os)
  NotLeft-from_first a b (shared x y ∷ os) h some stops = λ z. refl
  NotLeft-from_first a [] (left_only x ∷ os) h some stops = absurd (omega arith)
  NotLeft-from_first a (y ∷ b) (left_only x ∷ os) h some stops =
      let less : order x y ≡ Less = right_items-above_first o (left_only x) os y b (IsGood-from_owners order a (y ∷ b) (left_only x ∷ os) h) h.rights in
      absurd (stops x (subst (λ (xs : List K). 0 < length xs) h.lefts (omega arith))
      (subst (λ (xs : List K). order (get_or xs 0 x) y ≡ Less) h.lefts less))

  NotRight-from_first : (a b : List K) (os : List (Owner K)) → IsOwners order a b os → 0 < length a →
      ((d : K) → 0 < length b → order (get_or b 0 d) (get_or a 0 d) ≡ Less → ⊥) → NotRight os
  unfolding runs_of
  NotRight-from_first a b [] h some stops = λ y. refl
  NotRight-from_first a b (left_only x ∷ os) h some stops = λ y. joined-right_left y x (runs_of os)
  NotRight-from_first a b (shared x y ∷ os) h some stops = λ z. refl
  NotRight-from_first [] b (right_only y ∷ os) h some stops = absurd (omega arith)
  NotRight-from_first (x ∷ a) b (right_only y ∷ os) h some stops =
      let less : order y x ≡ Less = left_items-above_first o (right_only y) os x a (IsGood-from_owners order (x ∷ a) b (right_only y ∷ os) h) h.lefts in
      absurd (stops y (subst (λ (ys : List K). 0 < length ys) h.rights (omega arith))
      (subst (λ (ys : List K). order (get_or ys 0 y) x ≡ Less) h.rights less))

  -- the runs of owners of the left before others
  runs_of-some_left_only : (n : ℕ) (xs : List K) (os : List (Owner K)) → length xs ≡ n → 1 ≤ n → NotLeft os →
      runs_of (map left_only xs ++ os) ≡ Left n ∷ runs_of os
  runs_of-some_left_only n [] os e some h = absurd (omega arith)
  runs_of-some_left_only n (x ∷ xs) os e some h = runs_of-map_left_only x xs os h ∙ ap (λ (k : ℕ). Left k ∷ runs_of os) e

  runs_of-some_right_only : (n : ℕ) (ys : List K) (os : List (Owner K)) → length ys ≡ n → 1 ≤ n → NotRight os →
      runs_of (map right_only ys ++ os) ≡ Right n ∷ runs_of os
  runs_of-some_right_only n [] os e some h = absurd (omega arith)
  runs_of-some_right_only n (y ∷ ys) os e some h = runs_of-map_right_only y ys os h ∙ ap (λ (k : ℕ). Right k ∷ runs_of os) e

  front : (rs qs : List Run) (r : Run) → rs ≡ r ∷ qs → slice_get rs 0 ≡ Some r
  front rs qs r e = ap (λ (ps : List Run). slice_get ps 0) e

  module _ (a b : List K) (up : IsAscending order a) (vp : IsAscending order b) where
    -- the first n of a stand below the first of b
    pub owners-left : (n : ℕ) → n ≤ length a → 0 < length b → ((d : K) → order (get_or a (n - 1) d) (get_or b 0 d) ≡ Less) →
        owners order a b ≡ map left_only (take n a) ++ owners order (drop n a) b
    owners-left n within others below =
        let rest = IsOwners-owners o (drop n a) b (AllPairs-drop (Above order) n a up) vp in
        sym (owners-unique o a b (map left_only (take n a) ++ owners order (drop n a) b)
        (IsOwners-take_left n a b (owners order (drop n a) b) up within (λ k d l. before-all a b n k d up vp others within l below) rest))

    -- the first n of b stand below the first of a
    pub owners-right : (n : ℕ) → n ≤ length b → 0 < length a → ((d : K) → order (get_or b (n - 1) d) (get_or a 0 d) ≡ Less) →
        owners order a b ≡ map right_only (take n b) ++ owners order a (drop n b)
    owners-right n within others below =
        let rest = IsOwners-owners o a (drop n b) up (AllPairs-drop (Above order) n b vp) in
        sym (owners-unique o a b (map right_only (take n b) ++ owners order a (drop n b))
        (IsOwners-take_right n a b (owners order a (drop n b)) vp within (λ k d l. before-all b a n k d vp up others within l below) rest))

    -- exactly the first n of a stand below the first of b
    pub runs-left : (n : ℕ) → 1 ≤ n → n ≤ length a → 0 < length b →
        ((d : K) → order (get_or a (n - 1) d) (get_or b 0 d) ≡ Less) →
        ((d : K) → n < length a → order (get_or a n d) (get_or b 0 d) ≡ Less → ⊥) →
        slice_get (runs order a b) 0 ≡ Some (Left n)
    runs-left n some within others below stops =
        let rest = IsOwners-owners o (drop n a) b (AllPairs-drop (Above order) n a up) vp in
        let not_left = NotLeft-from_first (drop n a) b (owners order (drop n a) b) rest others
        (λ d l h. stops d (omega (arith, length-drop n a)) (rw (get_or-drop n a 0 d, add-zero) at h)) in
        front (runs order a b) (runs order (drop n a) b) (Left n)
        (ap (λ (os : List (Owner K)). runs_of os) (owners-left n within others below)
        ∙ runs_of-some_left_only n (take n a) (owners order (drop n a) b) (length-take-le n a within) some not_left)

    -- exactly the first n of b stand below the first of a
    pub runs-right : (n : ℕ) → 1 ≤ n → n ≤ length b → 0 < length a →
        ((d : K) → order (get_or b (n - 1) d) (get_or a 0 d) ≡ Less) →
        ((d : K) → n < length b → order (get_or b n d) (get_or a 0 d) ≡ Less → ⊥) →
        slice_get (runs order a b) 0 ≡ Some (Right n)
    runs-right n some within others below stops =
        let rest = IsOwners-owners o a (drop n b) up (AllPairs-drop (Above order) n b vp) in
        let not_right = NotRight-from_first a (drop n b) (owners order a (drop n b)) rest others
        (λ d l h. stops d (omega (arith, length-drop n b)) (rw (get_or-drop n b 0 d, add-zero) at h)) in
        front (runs order a b) (runs order a (drop n b)) (Right n)
        (ap (λ (os : List (Owner K)). runs_of os) (owners-right n within others below)
        ∙ runs_of-some_right_only n (take n b) (owners order a (drop n b)) (length-take-le n b within) some not_right)

  -- the first of each are equal
  pub runs-both : (a b : List K) → IsAscending order a → IsAscending order b → 0 < length a → 0 < length b →
      ((d : K) → order (get_or a 0 d) (get_or b 0 d) ≡ Equal) → slice_get (runs order a b) 0 ≡ Some Both
  unfolding runs_of
  runs-both [] b up vp some others same = absurd (omega arith)
  runs-both (x ∷ a) [] up vp some others same = absurd (omega arith)
  runs-both (x ∷ a) (y ∷ b) up vp some others same =
      let rest = IsOwners-owners o a b (AllPairs-tail (Above order) x a up) (AllPairs-tail (Above order) y b vp) in
      let above = All-weaker (Above order y) (Above order x) (λ z k. Less-from_equal o x y z (same x) k) b (AllPairs-head (Above order) y b vp) in
      let pinned = IsOwners-shared order x y a b (owners order a b) (same x)
      (IsOwners-below order x a b (owners order a b) rest (AllPairs-head (Above order) x a up) above) rest in
      let is = owners-unique o (x ∷ a) (y ∷ b) (shared x y ∷ owners order a b) pinned in
      ap (λ (os : List (Owner K)). slice_get (runs_of os) 0) (sym is)

  -- of two lists, one of them empty, the other is the one run
  pub runs-left_all : (a : List K) → 0 < length a → slice_get (runs order a []) 0 ≡ Some (Left (length a))
  unfolding owners runs_of
  runs-left_all a some =
      front (runs order a []) [] (Left (length a))
      (ap (λ (os : List (Owner K)). runs_of os) (sym (append-nil (map left_only a)))
      ∙ runs_of-some_left_only (length a) a [] refl some (λ x. refl))

  pub runs-right_all : (b : List K) → IsAscending order b → 0 < length b → slice_get (runs order [] b) 0 ≡ Some (Right (length b))
  unfolding runs_of
  runs-right_all b vp some =
      let pinned = IsOwners-take_right (length b) [] b [] vp (omega arith) (λ k d l. All-nil (Above order (get_or b k d)))
      (rw (drop_all (length b) b (omega arith)) (IsOwners-nil order)) in
      let is = owners-unique o [] b (map right_only (take (length b) b) ++ []) pinned in
      front (runs order [] b) [] (Right (length b))
      (ap (λ (os : List (Owner K)). runs_of os) (sym is)
      ∙ runs_of-some_right_only (length b) (take (length b) b) [] (length-take-le (length b) b (omega arith)) some (λ y. refl))

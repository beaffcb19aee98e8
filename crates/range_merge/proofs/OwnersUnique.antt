-- No two lists of owners are pinned by the same two lists.
--     owners-unique               a list that has what pins the owners is the owners
use Rattle.std.proofs.Common.{◌≡◌, refl, sym, ◌∙◌, subst, List, [], ◌∷◌}
use Rattle.std.specs.Cmp.{IsTotalOrder}
use Rattle.std.proofs.lemmas.List.Elements.{All-head, All-same, All-weaker}
use Rattle.std.specs.declared.cmp.Ordering.{Ordering}
use Rattle.std.specs.declared.cmp.Ordering.TheVariants.{Less, Equal}
use Rattle.range_merge.specs.Boundaries.{IsAscending}
use Rattle.range_merge.specs.Owners.{Owner, left_only, right_only, shared, item_of, left_items, right_items, IsOwners, owners}
use Rattle.range_merge.proofs.Orders.{Greater-from_less, Equal-sym}
use Rattle.range_merge.proofs.Pairs.{AllPairs-nil}
use Rattle.range_merge.proofs.OwnersLemmas.{All-left_items, Above, IsGood, IsGood-from_owners, IsOwners-above, IsOwners-tail, IsOwners-share, right_items-above, IsOwners-owners}
use Rattle.std.proofs.lemmas.List.Kept.{AllPairs-cons}

module _ {K : Type 0} {order : K → K → Ordering} (o : IsTotalOrder order) where
  -- the first owner stands below an item of the left that comes after it
  pub left_items-above_first : (p : Owner K) (os : List (Owner K)) (x : K) (xs : List K) → IsGood order (p ∷ os) →
      left_items os ≡ x ∷ xs → order (item_of p) x ≡ Less
  left_items-above_first p os x xs g e =
      All-head (Above order (item_of p)) x xs
      (All-same (Above order (item_of p)) (x ∷ xs) (left_items os) (sym e)
      (All-left_items (Above order (item_of p)) os (IsOwners-above order _ _ p os g)))

  -- and below an item of the right that does
  pub right_items-above_first : (p : Owner K) (os : List (Owner K)) (y : K) (ys : List K) → IsGood order (p ∷ os) →
      right_items os ≡ y ∷ ys → order (item_of p) y ≡ Less
  right_items-above_first p os y ys g e =
      All-head (Above order (item_of p)) y ys
      (All-same (Above order (item_of p)) (y ∷ ys) (right_items os) (sym e)
      (right_items-above o (item_of p) os (IsOwners-tail order _ _ p os g) (IsOwners-above order _ _ p os g)))

  pub not_both_less : (x y : K) → order x y ≡ Less → order y x ≡ Less → ⊥
  not_both_less x y h k = let e = Greater-from_less o x y h in absurd (cc)

  -- the first owners are of one kind
  left_only-not_right_only : (x y : K) (os os' : List (Owner K)) → IsGood order (left_only x ∷ os) → IsGood order (right_only y ∷ os') →
      x ∷ left_items os ≡ left_items os' → right_items os ≡ y ∷ right_items os' → ⊥
  left_only-not_right_only x y os os' g g' l r =
      not_both_less x y (right_items-above_first (left_only x) os y (right_items os') g r)
      (left_items-above_first (right_only y) os' x (left_items os) g' (sym l))

  left_only-not_shared : (x z y : K) (os os' : List (Owner K)) → IsGood order (left_only x ∷ os) → IsGood order (shared z y ∷ os') →
      x ≡ z → right_items os ≡ y ∷ right_items os' → ⊥
  left_only-not_shared x z y os os' g g' e r =
      let less : order x y ≡ Less = right_items-above_first (left_only x) os y (right_items os') g r in
      let same : order z y ≡ Equal = IsOwners-share order _ _ (shared z y) os' g' in
      absurd (cc)

  right_only-not_shared : (z x y : K) (os os' : List (Owner K)) → IsGood order (right_only z ∷ os) → IsGood order (shared x y ∷ os') →
      z ≡ y → left_items os ≡ x ∷ left_items os' → ⊥
  right_only-not_shared z x y os os' g g' e l =
      let less : order z x ≡ Less = left_items-above_first (right_only z) os x (left_items os') g l in
      let same : order y x ≡ Equal = Equal-sym o x y (IsOwners-share order _ _ (shared x y) os' g') in
      absurd (cc)

  same_owners : (os os' : List (Owner K)) → IsGood order os → IsGood order os' →
      left_items os ≡ left_items os' → right_items os ≡ right_items os' → os ≡ os'
  same_owners [] [] g g' l r = refl
  same_owners [] (left_only x ∷ os') g g' l r = absurd (cc)
  same_owners [] (right_only y ∷ os') g g' l r = absurd (cc)
  same_owners [] (shared x y ∷ os') g g' l r = absurd (cc)
  same_owners (left_only x ∷ os) [] g g' l r = absurd (cc)
  same_owners (right_only y ∷ os) [] g g' l r = absurd (cc)
  same_owners (shared x y ∷ os) [] g g' l r = absurd (cc)
  same_owners (left_only x ∷ os) (left_only x' ∷ os') g g' l r =
      let rest = same_owners os os' (IsOwners-tail order _ _ (left_only x) os g) (IsOwners-tail order _ _ (left_only x') os' g') (cc) r in
      cc
  same_owners (left_only x ∷ os) (right_only y ∷ os') g g' l r = absurd (left_only-not_right_only x y os os' g g' l r)
  same_owners (left_only x ∷ os) (shared z y ∷ os') g g' l r = absurd (left_only-not_shared x z y os os' g g' (cc) r)
  same_owners (right_only y ∷ os) (left_only x ∷ os') g g' l r =
      absurd (left_only-not_right_only x y os' os g' g (sym l) (sym r))
  same_owners (right_only y ∷ os) (right_only y' ∷ os') g g' l r =
      let rest = same_owners os os' (IsOwners-tail order _ _ (right_only y) os g) (IsOwners-tail order _ _ (right_only y') os' g') l (cc) in
      cc
  same_owners (right_only z ∷ os) (shared x y ∷ os') g g' l r = absurd (right_only-not_shared z x y os os' g g' (cc) l)
  same_owners (shared z y ∷ os) (left_only x ∷ os') g g' l r = absurd (left_only-not_shared x z y os' os g' g (cc) (sym r))
  same_owners (shared x y ∷ os) (right_only z ∷ os') g g' l r = absurd (right_only-not_shared z x y os' os g' g (cc) (sym l))
  same_owners (shared x y ∷ os) (shared x' y' ∷ os') g g' l r =
      let rest = same_owners os os' (IsOwners-tail order _ _ (shared x y) os g) (IsOwners-tail order _ _ (shared x' y') os' g') (cc) (cc) in
      cc

  -- two lists that one pair of lists pins are the same
  pub IsOwners-unique : (a b : List K) (os os' : List (Owner K)) → IsOwners order a b os → IsOwners order a b os' → os ≡ os'
  IsOwners-unique a b os os' h k =
      same_owners os os' (IsGood-from_owners order a b os h) (IsGood-from_owners order a b os' k)
      (h.lefts ∙ sym k.lefts) (h.rights ∙ sym k.rights)

  -- the left's items ascend as the owners do
  pub left_items-ascend : (os : List (Owner K)) → IsGood order os → IsAscending order (left_items os)
  left_items-ascend [] g = AllPairs-nil (Above order)
  left_items-ascend (left_only x ∷ os) g =
      AllPairs-cons (Above order) x (left_items os) (All-left_items (Above order x) os (IsOwners-above order _ _ (left_only x) os g))
      (left_items-ascend os (IsOwners-tail order _ _ (left_only x) os g))
  left_items-ascend (right_only y ∷ os) g = left_items-ascend os (IsOwners-tail order _ _ (right_only y) os g)
  left_items-ascend (shared x y ∷ os) g =
      AllPairs-cons (Above order) x (left_items os) (All-left_items (Above order x) os (IsOwners-above order _ _ (shared x y) os g))
      (left_items-ascend os (IsOwners-tail order _ _ (shared x y) os g))

  -- and so do the right's
  pub right_items-ascend : (os : List (Owner K)) → IsGood order os → IsAscending order (right_items os)
  right_items-ascend [] g = AllPairs-nil (Above order)
  right_items-ascend (left_only x ∷ os) g = right_items-ascend os (IsOwners-tail order _ _ (left_only x) os g)
  right_items-ascend (right_only y ∷ os) g =
      let good = IsOwners-tail order _ _ (right_only y) os g in
      AllPairs-cons (Above order) y (right_items os)
      (right_items-above o y os good (IsOwners-above order _ _ (right_only y) os g)) (right_items-ascend os good)
  right_items-ascend (shared x y ∷ os) g =
      let good = IsOwners-tail order _ _ (shared x y) os g in
      let same : (z : K) → order x z ≡ order y z = λ z. o.congr x y z (IsOwners-share order _ _ (shared x y) os g) in
      AllPairs-cons (Above order) y (right_items os)
      (All-weaker (Above order x) (Above order y) (λ z k. sym (same z) ∙ k) (right_items os)
      (right_items-above o x os good (IsOwners-above order _ _ (shared x y) os g)))
      (right_items-ascend os good)

  -- a list that has what pins the owners is the owners
  pub owners-unique : (a b : List K) (os : List (Owner K)) → IsOwners order a b os → os ≡ owners order a b
  owners-unique a b os h =
      let g = IsGood-from_owners order a b os h in
      IsOwners-unique a b os (owners order a b) h
      (IsOwners-owners o a b
      (subst (λ (xs : List K). IsAscending order xs) h.lefts (left_items-ascend os g))
      (subst (λ (ys : List K). IsAscending order ys) h.rights (right_items-ascend os g)))

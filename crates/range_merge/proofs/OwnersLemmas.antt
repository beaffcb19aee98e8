-- The owners of two lists: `owners` has what pins it, and no other list has.
--     IsOwners-owners             the owners ascend, with a and b among them
--     owners-unique               a list that is so is the owners
use Rattle.std.proofs.Common.{◌≡◌, refl, ap, ◌∙◌, List, [], ◌∷◌, map, All}
use Rattle.std.specs.Cmp.{IsTotalOrder}
use Rattle.std.proofs.lemmas.List.Elements.{All-nil, All-cons, All-head, All-tail, All-weaker, All-same}
use Rattle.std.specs.declared.cmp.Ordering.{Ordering}
use Rattle.std.specs.declared.cmp.Ordering.TheVariants.{Less, Equal, Greater}
use Rattle.range_merge.specs.Boundaries.{IsAscending}
use Rattle.range_merge.specs.Owners.{Owner, left_only, right_only, shared, item_of, left_items, right_items, IsShare, IsOwners, with_right_at, with_right, owners}
use Rattle.range_merge.proofs.Orders.{Less-from_greater, Equal-sym, Less-trans, Less-then_equal}
use Rattle.range_merge.proofs.Pairs.{AllPairs-nil, AllPairs-head, AllPairs-tail}
use Rattle.std.proofs.lemmas.List.Kept.{AllPairs-cons}

module _ {K : Type 0} where
  -- a fact of an owner's item
  abbrev pub OfItem : (K → Type 0) → Owner K → Type 0
  OfItem P p = P (item_of p)

  -- what all owners' items have, the left's items have
  pub All-left_items : (P : K → Type 0) (os : List (Owner K)) → All (OfItem P) os → All P (left_items os)
  All-left_items P [] h = All-nil P
  All-left_items P (left_only x ∷ os) h =
      All-cons P x (left_items os) (All-head (OfItem P) (left_only x) os h) (All-left_items P os (All-tail (OfItem P) (left_only x) os h))
  All-left_items P (right_only y ∷ os) h = All-left_items P os (All-tail (OfItem P) (right_only y) os h)
  All-left_items P (shared x y ∷ os) h =
      All-cons P x (left_items os) (All-head (OfItem P) (shared x y) os h) (All-left_items P os (All-tail (OfItem P) (shared x y) os h))

  -- and what all of the left's and of the right's items have, all owners' items have
  pub All-item_of : (P : K → Type 0) (os : List (Owner K)) → All P (left_items os) → All P (right_items os) → All (OfItem P) os
  All-item_of P [] l r = All-nil (OfItem P)
  All-item_of P (left_only x ∷ os) l r =
      All-cons (OfItem P) (left_only x) os (All-head P x (left_items os) l) (All-item_of P os (All-tail P x (left_items os) l) r)
  All-item_of P (right_only y ∷ os) l r =
      All-cons (OfItem P) (right_only y) os (All-head P y (right_items os) r) (All-item_of P os l (All-tail P y (right_items os) r))
  All-item_of P (shared x y ∷ os) l r =
      All-cons (OfItem P) (shared x y) os (All-head P x (left_items os) l)
      (All-item_of P os (All-tail P x (left_items os) l) (All-tail P y (right_items os) r))

  module _ (order : K → K → Ordering) where
    -- it stands above x
    abbrev pub Above : K → K → Type 0
    Above x y = order x y ≡ Less

    -- one owner stands below the other
    abbrev pub Ascends : Owner K → Owner K → Type 0
    Ascends p q = Above (item_of p) (item_of q)

    -- the owners of the items among them
    abbrev pub IsGood : List (Owner K) → Type 0
    IsGood os = IsOwners order (left_items os) (right_items os) os

    pub IsGood-from_owners : (a b : List K) (os : List (Owner K)) → IsOwners order a b os → IsGood os
    IsGood-from_owners a b os h = record { ascend = h.ascend; lefts = refl; rights = refl; equal = h.equal }

    pub IsOwners-nil : IsOwners order [] [] []
    IsOwners-nil = record { ascend = AllPairs-nil Ascends; lefts = refl; rights = refl; equal = All-nil (IsShare order) }

    pub IsOwners-left_only : (x : K) (a b : List K) (os : List (Owner K)) → All (OfItem (Above x)) os →
        IsOwners order a b os → IsOwners order (x ∷ a) b (left_only x ∷ os)
    IsOwners-left_only x a b os above h = record {
      ascend = AllPairs-cons Ascends (left_only x) os above h.ascend;
      lefts = ap (λ (xs : List K). x ∷ xs) h.lefts;
      rights = h.rights;
      equal = All-cons (IsShare order) (left_only x) os tt h.equal;
    }

    pub IsOwners-right_only : (y : K) (a b : List K) (os : List (Owner K)) → All (OfItem (Above y)) os →
        IsOwners order a b os → IsOwners order a (y ∷ b) (right_only y ∷ os)
    IsOwners-right_only y a b os above h = record {
      ascend = AllPairs-cons Ascends (right_only y) os above h.ascend;
      lefts = h.lefts;
      rights = ap (λ (ys : List K). y ∷ ys) h.rights;
      equal = All-cons (IsShare order) (right_only y) os tt h.equal;
    }

    pub IsOwners-shared : (x y : K) (a b : List K) (os : List (Owner K)) → order x y ≡ Equal → All (OfItem (Above x)) os →
        IsOwners order a b os → IsOwners order (x ∷ a) (y ∷ b) (shared x y ∷ os)
    IsOwners-shared x y a b os same above h = record {
      ascend = AllPairs-cons Ascends (shared x y) os above h.ascend;
      lefts = ap (λ (xs : List K). x ∷ xs) h.lefts;
      rights = ap (λ (ys : List K). y ∷ ys) h.rights;
      equal = All-cons (IsShare order) (shared x y) os same h.equal;
    }

    -- the first owner stands below the others
    pub IsOwners-above : (a b : List K) (p : Owner K) (os : List (Owner K)) → IsOwners order a b (p ∷ os) → All (OfItem (Above (item_of p))) os
    IsOwners-above a b p os h = AllPairs-head Ascends p os h.ascend

    pub IsOwners-tail : (a b : List K) (p : Owner K) (os : List (Owner K)) → IsOwners order a b (p ∷ os) → IsGood os
    IsOwners-tail a b p os h = record {
      ascend = AllPairs-tail Ascends p os h.ascend;
      lefts = refl;
      rights = refl;
      equal = All-tail (IsShare order) p os h.equal;
    }

    pub IsOwners-share : (a b : List K) (p : Owner K) (os : List (Owner K)) → IsOwners order a b (p ∷ os) → IsShare order p
    IsOwners-share a b p os h = All-head (IsShare order) p os h.equal

    -- what stands below all items of a and of b stands below their owners
    pub IsOwners-below : (x : K) (a b : List K) (os : List (Owner K)) → IsOwners order a b os →
        All (Above x) a → All (Above x) b → All (OfItem (Above x)) os
    IsOwners-below x a b os h l r =
        All-item_of (Above x) os (All-same (Above x) (left_items os) a h.lefts l) (All-same (Above x) (right_items os) b h.rights r)

    pub IsOwners-map_left_only : (a : List K) → IsAscending order a → IsOwners order a [] (map left_only a)
    IsOwners-map_left_only [] h = IsOwners-nil
    IsOwners-map_left_only (x ∷ a) h =
        let rest = IsOwners-map_left_only a (AllPairs-tail Above x a h) in
        IsOwners-left_only x a [] (map left_only a)
        (IsOwners-below x a [] (map left_only a) rest (AllPairs-head Above x a h) (All-nil (Above x))) rest

    pub IsOwners-map_right_only : (b : List K) → IsAscending order b → IsOwners order [] b (map right_only b)
    IsOwners-map_right_only [] h = IsOwners-nil
    IsOwners-map_right_only (y ∷ b) h =
        let rest = IsOwners-map_right_only b (AllPairs-tail Above y b h) in
        IsOwners-right_only y [] b (map right_only b)
        (IsOwners-below y [] b (map right_only b) rest (All-nil (Above y)) (AllPairs-head Above y b h)) rest

module _ {K : Type 0} {order : K → K → Ordering} (o : IsTotalOrder order) where
  -- what stands below the owners stands below the right's items
  pub right_items-above : (x : K) (os : List (Owner K)) → IsGood order os → All (OfItem (Above order x)) os → All (Above order x) (right_items os)
  right_items-above x [] g h = All-nil (Above order x)
  right_items-above x (left_only z ∷ os) g h =
      right_items-above x os (IsOwners-tail order _ _ (left_only z) os g) (All-tail (OfItem (Above order x)) (left_only z) os h)
  right_items-above x (right_only y ∷ os) g h =
      All-cons (Above order x) y (right_items os) (All-head (OfItem (Above order x)) (right_only y) os h)
      (right_items-above x os (IsOwners-tail order _ _ (right_only y) os g) (All-tail (OfItem (Above order x)) (right_only y) os h))
  right_items-above x (shared z y ∷ os) g h =
      All-cons (Above order x) y (right_items os)
      (Less-then_equal o x z y (All-head (OfItem (Above order x)) (shared z y) os h) (IsOwners-share order _ _ (shared z y) os g))
      (right_items-above x os (IsOwners-tail order _ _ (shared z y) os g) (All-tail (OfItem (Above order x)) (shared z y) os h))

  -- what stands below the first of some stands below the rest
  pub Above-trans : (x y : K) (os : List (Owner K)) → Above order x y → All (OfItem (Above order y)) os → All (OfItem (Above order x)) os
  Above-trans x y os h all =
      All-weaker (OfItem (Above order y)) (OfItem (Above order x)) (λ p k. Less-trans o x y (item_of p) h k) os all

  -- y is put before, into or after an owner of the left alone
  with_right-left : (y x : K) (os : List (Owner K)) (r : Ordering) → order y x ≡ r → IsGood order (left_only x ∷ os) →
      All (Above order y) (right_items os) →
      IsOwners order (left_items os) (y ∷ right_items os) (with_right order y os) →
      IsOwners order (x ∷ left_items os) (y ∷ right_items os) (with_right_at order r y (left_only x) os (with_right order y os))
  with_right-left y x os Less e g above rest =
      IsOwners-right_only order y (x ∷ left_items os) (right_items os) (left_only x ∷ os)
      (All-cons (OfItem (Above order y)) (left_only x) os e (Above-trans y x os e (IsOwners-above order _ _ (left_only x) os g))) g
  with_right-left y x os Equal e g above rest =
      IsOwners-shared order x y (left_items os) (right_items os) os (Equal-sym o y x e)
      (IsOwners-above order _ _ (left_only x) os g) (IsOwners-tail order _ _ (left_only x) os g)
  with_right-left y x os Greater e g above rest =
      let first = Less-from_greater o y x e in
      let others = IsOwners-above order _ _ (left_only x) os g in
      let good = IsOwners-tail order _ _ (left_only x) os g in
      IsOwners-left_only order x (left_items os) (y ∷ right_items os) (with_right order y os)
      (IsOwners-below order x (left_items os) (y ∷ right_items os) (with_right order y os) rest
      (All-left_items (Above order x) os others)
      (All-cons (Above order x) y (right_items os) first (right_items-above x os good others)))
      rest

  -- y is put before an owner above it
  with_right-before : (y : K) (p : Owner K) (os : List (Owner K)) → order y (item_of p) ≡ Less → IsGood order (p ∷ os) →
      IsOwners order (left_items (p ∷ os)) (y ∷ right_items (p ∷ os))
      (with_right_at order (order y (item_of p)) y p os (with_right order y os))
  with_right-before y p os e g = rw e
      (IsOwners-right_only order y (left_items (p ∷ os)) (right_items (p ∷ os)) (p ∷ os)
      (All-cons (OfItem (Above order y)) p os e (Above-trans y (item_of p) os e (IsOwners-above order _ _ p os g))) g)

  -- an item below all of the right's is put in its place
  IsGood-with_right : (y : K) (os : List (Owner K)) → IsGood order os → All (Above order y) (right_items os) →
      IsOwners order (left_items os) (y ∷ right_items os) (with_right order y os)
  unfolding with_right
  IsGood-with_right y [] g above = IsOwners-right_only order y [] [] [] (All-nil (OfItem (Above order y))) g
  IsGood-with_right y (left_only x ∷ os) g above =
      with_right-left y x os (order y x) refl g above
      (IsGood-with_right y os (IsOwners-tail order _ _ (left_only x) os g) above)
  IsGood-with_right y (right_only z ∷ os) g above =
      with_right-before y (right_only z) os (All-head (Above order y) z (right_items os) above) g
  IsGood-with_right y (shared x z ∷ os) g above =
      with_right-before y (shared x z) os
      (Less-then_equal o y z x (All-head (Above order y) z (right_items os) above)
      (Equal-sym o x z (IsOwners-share order _ _ (shared x z) os g))) g

  pub IsOwners-with_right : (y : K) (a b : List K) (os : List (Owner K)) → IsOwners order a b os → All (Above order y) b →
      IsOwners order a (y ∷ b) (with_right order y os)
  IsOwners-with_right y a b os h above =
      let k = IsGood-with_right y os (IsGood-from_owners order a b os h) (All-same (Above order y) (right_items os) b h.rights above) in
      record {
        ascend = k.ascend;
        lefts = k.lefts ∙ h.lefts;
        rights = k.rights ∙ ap (λ (ys : List K). y ∷ ys) h.rights;
        equal = k.equal;
      }

  -- the owners of two lists that ascend have what pins them
  pub IsOwners-owners : (a b : List K) → IsAscending order a → IsAscending order b → IsOwners order a b (owners order a b)
  unfolding owners
  IsOwners-owners a [] up vp = IsOwners-map_left_only order a up
  IsOwners-owners a (y ∷ b) up vp =
      IsOwners-with_right y a b (owners order a b) (IsOwners-owners a b up (AllPairs-tail (Above order) y b vp)) (AllPairs-head (Above order) y b vp)

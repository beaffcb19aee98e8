-- The marks of the changes: which list each one is taken from.
use Rattle.std.proofs.Common.{◌≡◌, ◌≢◌, suc, List, [], ◌∷◌, map, get_or, All, Contains, refl, sym, ap, ◌∙◌, arith}
use Rattle.std.specs.Cmp.{IsTotalOrder}
use Rattle.std.proofs.lemmas.List.Elements.{All-nil, All-cons, All-filter, All-map, All-weaker}
use Rattle.std.specs.declared.cmp.Ordering.{Ordering}
use Rattle.std.specs.declared.cmp.Ordering.TheVariants.{Less, Equal, Greater}
use Rattle.range_merge.specs.Boundaries.{IsAscending}
use Rattle.range_merge.specs.Connective.{Table}
use Rattle.range_merge.specs.Changes.{Taken, from_left, from_right, taken_item, taken_of, IsMarkedTruly, changes}
use Rattle.range_merge.specs.Owners.{Owner, left_only, right_only, shared, left_items, right_items, owners}
use Rattle.range_merge.proofs.Orders.{Greater-from_less}
use Rattle.range_merge.proofs.ChangesLemmas.{taken_item-taken_of}
use Rattle.range_merge.proofs.OwnersLemmas.{Above, All-left_items, IsGood, IsGood-from_owners, IsOwners-above, IsOwners-tail, IsOwners-owners}

pub Contains-here : {K : Type 0} (x : K) (xs : List K) → Contains (x ∷ xs) x
Contains-here x xs = (0, omega arith, refl)

pub Contains-after : {K : Type 0} (x y : K) (xs : List K) → Contains xs y → Contains (x ∷ xs) y
Contains-after x y xs (k, within, is) = (suc k, omega arith, is)

module _ {K : Type 0} {order : K → K → Ordering} (o : IsTotalOrder order) where
  -- an owner put first keeps the marks of those after it true
  IsMarkedTruly-after_left : (x : K) (l r : List K) (t : Taken K) → IsMarkedTruly order l r t → order x (taken_item t) ≡ Less → IsMarkedTruly order (x ∷ l) r t
  IsMarkedTruly-after_left x l r (from_left z) h below = Contains-after x z l h
  IsMarkedTruly-after_left x l r (from_right z) h below =
      (h.0, All-cons (λ w. order w z ≢ Equal) x l (λ same. let no : Less ≡ Equal = sym below ∙ same in cc) h.1)

  IsMarkedTruly-after_right : (y : K) (l r : List K) (t : Taken K) → IsMarkedTruly order l r t → IsMarkedTruly order l (y ∷ r) t
  IsMarkedTruly-after_right y l r (from_left z) h = h
  IsMarkedTruly-after_right y l r (from_right z) h = (Contains-after y z r h.0, h.1)

  marks : (os : List (Owner K)) → IsGood order os → All (λ p. IsMarkedTruly order (left_items os) (right_items os) (taken_of p)) os
  marks [] good = All-nil (λ p. IsMarkedTruly order [] [] (taken_of p))
  marks (left_only x ∷ os) good =
      let rest = marks os (IsOwners-tail order _ _ (left_only x) os good) in
      let above = IsOwners-above order _ _ (left_only x) os good in
      All-cons (λ p. IsMarkedTruly order (x ∷ left_items os) (right_items os) (taken_of p)) (left_only x) os (Contains-here x (left_items os))
      (λ k d within. IsMarkedTruly-after_left x (left_items os) (right_items os) (taken_of (get_or os k d)) (rest k d within)
      (ap (order x) (taken_item-taken_of (get_or os k d)) ∙ above k d within))
  marks (right_only y ∷ os) good =
      let rest = marks os (IsOwners-tail order _ _ (right_only y) os good) in
      let above = IsOwners-above order _ _ (right_only y) os good in
      let none : All (λ w. order w y ≢ Equal) (left_items os) =
      All-weaker (Above order y) (λ w. order w y ≢ Equal) (λ w less same. let no : Greater ≡ Equal = sym (Greater-from_less o y w less) ∙ same in cc) (left_items os) (All-left_items (Above order y) os above) in
      All-cons (λ p. IsMarkedTruly order (left_items os) (y ∷ right_items os) (taken_of p)) (right_only y) os (Contains-here y (right_items os), none)
      (λ k d within. IsMarkedTruly-after_right y (left_items os) (right_items os) (taken_of (get_or os k d)) (rest k d within))
  marks (shared x y ∷ os) good =
      let rest = marks os (IsOwners-tail order _ _ (shared x y) os good) in
      let above = IsOwners-above order _ _ (shared x y) os good in
      All-cons (λ p. IsMarkedTruly order (x ∷ left_items os) (y ∷ right_items os) (taken_of p)) (shared x y) os (Contains-here x (left_items os))
      (λ k d within. IsMarkedTruly-after_left x (left_items os) (y ∷ right_items os) (taken_of (get_or os k d))
      (IsMarkedTruly-after_right y (left_items os) (right_items os) (taken_of (get_or os k d)) (rest k d within))
      (ap (order x) (taken_item-taken_of (get_or os k d)) ∙ above k d within))

  -- each change is marked by the list that it is taken from
  pub IsMarkedTruly-changes : (f : Table) (a b : List K) → IsAscending order a → IsAscending order b → All (IsMarkedTruly order a b) (changes order f a b)
  unfolding changes
  IsMarkedTruly-changes f a b p q =
      let io = IsOwners-owners o a b p q in
      let os = owners order a b in
      let true_of = marks os (IsGood-from_owners order a b os io) in
      let named = rw (io.lefts, io.rights) at true_of in
      All-filter _ (IsMarkedTruly order a b) (map taken_of os) (All-map (IsMarkedTruly order a b) taken_of os named)

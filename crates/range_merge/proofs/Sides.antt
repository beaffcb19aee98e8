-- The items of each side among owners, one owner at a time.
use Rattle.std.proofs.Common.{◌≡◌, Bool, true, false, ◌&&◌, List, [], ◌∷◌, refl, sym, ap, ◌∙◌, All}
use Rattle.std.proofs.lemmas.List.Elements.{All-nil, All-cons, All-head, All-tail}
use Rattle.std.specs.Cmp.{IsTotalOrder}
use Rattle.std.specs.declared.cmp.Ordering.{Ordering}
use Rattle.std.specs.declared.cmp.Ordering.TheVariants.{Equal, Greater}
use Rattle.std.specs.Ordering.{is_le, is_lt}
use Rattle.range_merge.specs.Boundaries.{member}
use Rattle.range_merge.specs.Connective.{differ}
use Rattle.range_merge.specs.Owners.{Owner, left_only, right_only, shared, item_of, left_items, right_items, IsShare}
use Rattle.range_merge.proofs.Orders.{same_left}
use Rattle.range_merge.proofs.Members.{member-cons, odd_below, odd_below-cons}

module _ {K : Type 0} where
  -- the owner has an item of the left, or of the right
  abbrev pub in_left : Owner K → Bool
  in_left (left_only x) = true
  in_left (right_only y) = false
  in_left (shared x y) = true

  abbrev pub in_right : Owner K → Bool
  in_right (left_only x) = false
  in_right (right_only y) = true
  in_right (shared x y) = true

module _ {K : Type 0} (order : K → K → Ordering) where
  -- the count at x over an owner and the others, for each side
  pub member-left_items : (p : Owner K) (os : List (Owner K)) (x : K)
      → member order (left_items (p ∷ os)) x ≡ differ (in_left p && is_le (order (item_of p) x)) (member order (left_items os) x)
  member-left_items (left_only z) os x = member-cons order z (left_items os) x
  member-left_items (right_only z) os x = refl
  member-left_items (shared z y) os x = member-cons order z (left_items os) x

  pub odd_below-left_items : (p : Owner K) (os : List (Owner K)) (x : K)
      → odd_below order (left_items (p ∷ os)) x ≡ differ (in_left p && is_lt (order (item_of p) x)) (odd_below order (left_items os) x)
  odd_below-left_items (left_only z) os x = odd_below-cons order z (left_items os) x
  odd_below-left_items (right_only z) os x = refl
  odd_below-left_items (shared z y) os x = odd_below-cons order z (left_items os) x

module _ {K : Type 0} {order : K → K → Ordering} (o : IsTotalOrder order) where
  -- where every owner's item is above x, so is every item of the right
  pub right_items-above : (x : K) (os : List (Owner K)) → All (IsShare order) os → All (λ p. order (item_of p) x ≡ Greater) os
      → All (λ y. order y x ≡ Greater) (right_items os)
  right_items-above x [] s h = All-nil (λ y. order y x ≡ Greater)
  right_items-above x (left_only y ∷ os) s h =
      right_items-above x os (All-tail (IsShare order) (left_only y) os s) (All-tail (λ p. order (item_of p) x ≡ Greater) (left_only y) os h)
  right_items-above x (right_only y ∷ os) s h =
      let Q = λ (p : Owner K). order (item_of p) x ≡ Greater in
      All-cons (λ y. order y x ≡ Greater) y (right_items os) (All-head Q (right_only y) os h)
      (right_items-above x os (All-tail (IsShare order) (right_only y) os s) (All-tail Q (right_only y) os h))
  right_items-above x (shared z y ∷ os) s h =
      let Q = λ (p : Owner K). order (item_of p) x ≡ Greater in
      let e : order z y ≡ Equal = All-head (IsShare order) (shared z y) os s in
      All-cons (λ y. order y x ≡ Greater) y (right_items os) (sym (same_left o z y x e) ∙ All-head Q (shared z y) os h)
      (right_items-above x os (All-tail (IsShare order) (shared z y) os s) (All-tail Q (shared z y) os h))

  pub member-right_items : (p : Owner K) (os : List (Owner K)) (x : K) → IsShare order p
      → member order (right_items (p ∷ os)) x ≡ differ (in_right p && is_le (order (item_of p) x)) (member order (right_items os) x)
  member-right_items (left_only z) os x s = refl
  member-right_items (right_only z) os x s = member-cons order z (right_items os) x
  member-right_items (shared z y) os x s =
      member-cons order y (right_items os) x ∙ ap (λ r. differ (is_le r) (member order (right_items os) x)) (sym (same_left o z y x s))

  pub odd_below-right_items : (p : Owner K) (os : List (Owner K)) (x : K) → IsShare order p
      → odd_below order (right_items (p ∷ os)) x ≡ differ (in_right p && is_lt (order (item_of p) x)) (odd_below order (right_items os) x)
  odd_below-right_items (left_only z) os x s = refl
  odd_below-right_items (right_only z) os x s = odd_below-cons order z (right_items os) x
  odd_below-right_items (shared z y) os x s =
      odd_below-cons order y (right_items os) x ∙ ap (λ r. differ (is_lt r) (odd_below order (right_items os) x)) (sym (same_left o z y x s))

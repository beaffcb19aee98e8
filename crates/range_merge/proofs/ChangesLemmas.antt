-- What `changes` gives: it is the walk over the owners, and its items mean the connective.
use Rattle.std.proofs.Common.{◌≡◌, ℕ, ◌<◌, get_or, Bool, true, false, ◌&&◌, cond, List, [], ◌∷◌, map, length, filter, refl, sym, ap, ap₂, ◌∙◌, All, AllPairs}
use Rattle.std.proofs.lemmas.List.Elements.{All-cons, All-head, All-tail, All-map}
use Rattle.std.proofs.lemmas.List.Kept.{AllPairs-filter, AllPairs-cons}
use Rattle.std.specs.Cmp.{IsTotalOrder}
use Rattle.std.specs.declared.cmp.Ordering.{Ordering}
use Rattle.std.specs.declared.cmp.Ordering.TheVariants.{Less, Equal, Greater}
use Rattle.std.specs.Ordering.{is_le, is_lt}
use Rattle.range_merge.specs.Boundaries.{IsAscending, member}
use Rattle.range_merge.specs.Connective.{Table, differ, opposite, Means}
use Rattle.range_merge.specs.Owners.{Owner, left_only, right_only, shared, item_of, left_items, right_items, OwnersAscend, IsShare, IsOwners, owners}
use Rattle.range_merge.specs.Changes.{Taken, taken_item, taken_items, taken_of, answer_at, answer_just_below, changes}
use Rattle.range_merge.proofs.Orders.{Greater-from_less, Greater-trans, Equal-self}
use Rattle.range_merge.proofs.Pairs.{AllPairs-nil, AllPairs-head, AllPairs-tail}
use Rattle.range_merge.proofs.Parity.{differ-comm, differ-false, differ-self, differ-trans, differ-not_both}
use Rattle.range_merge.proofs.Members.{member-nil, member-cons, member-above, odd_below, odd_below-above, by_Ordering}
use Rattle.range_merge.proofs.Sides.{in_left, in_right, right_items-above, member-left_items, member-right_items, odd_below-left_items, odd_below-right_items}
use Rattle.range_merge.specs.Walk.{walk}
use Rattle.range_merge.proofs.OwnersLemmas.{All-left_items}

and-true : (a : Bool) → (a && true) ≡ a
and-true true = refl
and-true false = refl

pub and-false : (a : Bool) → (a && false) ≡ false
and-false true = refl
and-false false = refl

-- a running truth c moved by s, and then by m
differ-moved : (s c m : Bool) → differ (differ s c) m ≡ differ c (differ (s && true) m)
differ-moved true c m = differ-not_both c m
differ-moved false c m = refl

-- an answer does not change where neither side does
unchanged : (f : Table) (ac bc l r : Bool) → l ≡ false → r ≡ false → differ (f ac bc) (f (differ ac l) (differ bc r)) ≡ false
unchanged f ac bc l r p q =
    ap₂ (λ u v. differ (f ac bc) (f (differ ac u) (differ bc v))) p q
    ∙ ap₂ (λ u v. differ (f ac bc) (f u v)) (differ-false ac) (differ-false bc)
    ∙ differ-self (f ac bc)

-- two changes one after the other, of which the first is at or below the place asked of
changed : (f : Table) (ac bc s t l r m : Bool) → m ≡ differ (f (differ s ac) (differ t bc)) (f (differ (differ s ac) l) (differ (differ t bc) r))
    → differ (differ (f ac bc) (f (differ s ac) (differ t bc)) && true) m ≡ differ (f ac bc) (f (differ ac (differ (s && true) l)) (differ bc (differ (t && true) r)))
changed f ac bc s t l r m h =
    let there = f (differ s ac) (differ t bc) in
    ap₂ differ (and-true (differ (f ac bc) there)) h
    ∙ differ-trans (f ac bc) there (f (differ (differ s ac) l) (differ (differ t bc) r))
    ∙ ap₂ (λ u v. differ (f ac bc) (f u v)) (differ-moved s ac l) (differ-moved t bc r)

AllPairs-map : {X Y : Type 0} (R : Y → Y → Type 0) (g : X → Y) (xs : List X) → AllPairs (λ x y. R (g x) (g y)) xs → AllPairs R (map g xs)
AllPairs-map R g [] h = AllPairs-nil R
AllPairs-map {X = X} R g (x ∷ xs) h =
    let S = λ (x y : X). R (g x) (g y) in
    AllPairs-cons R (g x) (map g xs) (All-map (R (g x)) g xs (AllPairs-head S x xs h)) (AllPairs-map R g xs (AllPairs-tail S x xs h))

module _ {K : Type 0} where
  pub taken_item-taken_of : (p : Owner K) → taken_item (taken_of p) ≡ item_of p
  taken_item-taken_of (left_only x) = refl
  taken_item-taken_of (right_only y) = refl
  taken_item-taken_of (shared x y) = refl

  pub walk-cons : (f : Table) (ac bc : Bool) (p : Owner K) (os : List (Owner K))
      → walk f ac bc (p ∷ os)
      ≡ cond (differ (f ac bc) (f (differ (in_left p) ac) (differ (in_right p) bc))) (taken_of p ∷ walk f (differ (in_left p) ac) (differ (in_right p) bc) os) (walk f (differ (in_left p) ac) (differ (in_right p) bc) os)
  walk-cons f ac bc (left_only x) os = refl
  walk-cons f ac bc (right_only y) os = refl
  walk-cons f ac bc (shared x y) os = refl

module _ {K : Type 0} (order : K → K → Ordering) where
  -- what the counts of a list at z are, where l is what is left of it and c whether an odd number
  -- is gone
  record RunsAs (whole l : List K) (c : Bool) (z : K) : Type 0 where
    strictly : odd_below order whole z ≡ differ c (odd_below order l z)
    upto : member order whole z ≡ differ c (member order l z)

  -- the same after one owner at y, which had an item of this side where s says so
  RunsAs-tail : (whole l rest : List K) (s c : Bool) (y z : K) → order y z ≡ Less
      → odd_below order l z ≡ differ (s && is_lt (order y z)) (odd_below order rest z)
      → member order l z ≡ differ (s && is_le (order y z)) (member order rest z)
      → RunsAs whole l c z → RunsAs whole rest (differ s c) z
  RunsAs-tail whole l rest s c y z less p q h = record {
    strictly = h.strictly ∙ ap (differ c) (p ∙ ap (λ r. differ (s && is_lt r) (odd_below order rest z)) less) ∙ sym (differ-moved s c (odd_below order rest z));
    upto = h.upto ∙ ap (differ c) (q ∙ ap (λ r. differ (s && is_le r) (member order rest z)) less) ∙ sym (differ-moved s c (member order rest z));
  }

  -- the counts at the owner's own item
  RunsAs-strictly : (whole l rest : List K) (s c : Bool) (z : K) → order z z ≡ Equal → All (λ y. order y z ≡ Greater) rest
      → odd_below order l z ≡ differ (s && is_lt (order z z)) (odd_below order rest z)
      → RunsAs whole l c z → odd_below order whole z ≡ c
  RunsAs-strictly whole l rest s c z e above p h =
      h.strictly ∙ ap (differ c) (p ∙ ap₂ (λ r m. differ (s && is_lt r) m) e (odd_below-above order rest z above) ∙ ap (λ b. differ b false) (and-false s)) ∙ differ-false c

  RunsAs-upto : (whole l rest : List K) (s c : Bool) (z : K) → order z z ≡ Equal → All (λ y. order y z ≡ Greater) rest
      → member order l z ≡ differ (s && is_le (order z z)) (member order rest z)
      → RunsAs whole l c z → member order whole z ≡ differ s c
  RunsAs-upto whole l rest s c z e above p h =
      h.upto ∙ ap (differ c) (p ∙ ap₂ (λ r m. differ (s && is_le r) m) e (member-above order rest z above) ∙ differ-false (s && true) ∙ and-true s) ∙ differ-comm c s

  member-cond : (d : Bool) (t : Taken K) (ts : List (Taken K)) (x : K)
      → member order (taken_items (cond d (t ∷ ts) ts)) x ≡ differ (d && is_le (order (taken_item t) x)) (member order (taken_items ts) x)
  member-cond true t ts x = member-cons order (taken_item t) (taken_items ts) x
  member-cond false t ts x = refl

  pub member-walk_cons : (f : Table) (ac bc : Bool) (p : Owner K) (os : List (Owner K)) (x : K)
      → member order (taken_items (walk f ac bc (p ∷ os))) x
      ≡ differ (differ (f ac bc) (f (differ (in_left p) ac) (differ (in_right p) bc)) && is_le (order (item_of p) x)) (member order (taken_items (walk f (differ (in_left p) ac) (differ (in_right p) bc) os)) x)
  member-walk_cons f ac bc p os x =
      let d = differ (f ac bc) (f (differ (in_left p) ac) (differ (in_right p) bc)) in
      let rest = walk f (differ (in_left p) ac) (differ (in_right p) bc) os in
      ap (λ ts. member order (taken_items ts) x) (walk-cons f ac bc p os)
      ∙ member-cond d (taken_of p) rest x
      ∙ ap (λ z. differ (d && is_le (order z x)) (member order (taken_items rest) x)) (taken_item-taken_of p)

module _ {K : Type 0} {order : K → K → Ordering} (o : IsTotalOrder order) where
  -- the owners after the first are above its item
  owners-above : (p : Owner K) (os : List (Owner K)) → OwnersAscend order (p ∷ os) → All (λ q. order (item_of q) (item_of p) ≡ Greater) os
  owners-above p os h k d within =
      Greater-from_less o _ _ (AllPairs-head (λ q r. order (item_of q) (item_of r) ≡ Less) p os h k d within)

  members-walk_above : (f : Table) (ac bc : Bool) (os : List (Owner K)) (x : K) → All (IsShare order) os → All (λ q. order (item_of q) x ≡ Greater) os
      → differ (f ac bc) (f (differ ac (member order (left_items os) x)) (differ bc (member order (right_items os) x))) ≡ false
  members-walk_above f ac bc os x s h =
      unchanged f ac bc _ _
      (member-above order (left_items os) x (All-left_items (λ y. order y x ≡ Greater) os h))
      (member-above order (right_items os) x (right_items-above o x os s h))

  -- the members of what a walk takes are those at which f's answer is another than at its start
  pub members-walk : (f : Table) (ac bc : Bool) (os : List (Owner K)) (x : K) → OwnersAscend order os → All (IsShare order) os
      → member order (taken_items (walk f ac bc os)) x ≡ differ (f ac bc) (f (differ ac (member order (left_items os) x)) (differ bc (member order (right_items os) x)))
  members-walk f ac bc [] x up s = member-nil order x ∙ sym (unchanged f ac bc _ _ (member-nil order x) (member-nil order x))
  members-walk f ac bc (p ∷ os) x up s =
      let z = item_of p in
      let ac' = differ (in_left p) ac in
      let bc' = differ (in_right p) bc in
      let d = differ (f ac bc) (f ac' bc') in
      let l = member order (left_items os) x in
      let r = member order (right_items os) x in
      let m = member order (taken_items (walk f ac' bc' os)) x in
      let share : IsShare order p = All-head (IsShare order) p os s in
      let rest = members-walk f ac' bc' os x (AllPairs-tail (λ q r. order (item_of q) (item_of r) ≡ Less) p os up) (All-tail (IsShare order) p os s) in
      let at_or_below = λ (le : is_le (order z x) ≡ true).
      member-walk_cons order f ac bc p os x
      ∙ ap (λ t. differ (d && t) m) le
      ∙ changed f ac bc (in_left p) (in_right p) l r m rest
      ∙ sym (ap₂ (λ u v. differ (f ac bc) (f (differ ac u) (differ bc v)))
      (member-left_items order p os x ∙ ap (λ t. differ (in_left p && t) l) le)
      (member-right_items o p os x share ∙ ap (λ t. differ (in_right p && t) r) le)) in
      let others = λ (g : order z x ≡ Greater) (k : ℕ) (q : Owner K) (within : k < length os).
      Greater-trans o (item_of (get_or os k q)) z x (owners-above p os up k q within) g in
      by_Ordering (order z x)
      (λ e. at_or_below (ap is_le e))
      (λ e. at_or_below (ap is_le e))
      (λ g. member-walk_cons order f ac bc p os x
      ∙ ap₂ (λ t n. differ (d && t) n) (ap is_le g) (rest ∙ members-walk_above f ac' bc' os x (All-tail (IsShare order) p os s) (others g))
      ∙ ap (λ b. differ b false) (and-false d)
      ∙ sym (members-walk_above f ac bc (p ∷ os) x s (All-cons (λ q. order (item_of q) x ≡ Greater) p os g (others g))))

  -- the test of `changes` at the owners that are left is the walk, where the counts of both sides
  -- run as it says
  filter-walk : (f : Table) (a b : List K) (ac bc : Bool) (os : List (Owner K)) → OwnersAscend order os → All (IsShare order) os
      → All (λ p. RunsAs order a (left_items os) ac (item_of p)) os → All (λ p. RunsAs order b (right_items os) bc (item_of p)) os
      → filter (λ t. differ (answer_just_below order f a b (taken_item t)) (answer_at order f a b (taken_item t))) (map taken_of os) ≡ walk f ac bc os
  filter-walk f a b ac bc [] up s ha hb = refl
  filter-walk f a b ac bc (p ∷ os) up s ha hb =
      let z = item_of p in
      let ac' = differ (in_left p) ac in
      let bc' = differ (in_right p) bc in
      let share : IsShare order p = All-head (IsShare order) p os s in
      let shares : All (IsShare order) os = All-tail (IsShare order) p os s in
      let runs_a : RunsAs order a (left_items (p ∷ os)) ac z = All-head (λ q. RunsAs order a (left_items (p ∷ os)) ac (item_of q)) p os ha in
      let runs_b : RunsAs order b (right_items (p ∷ os)) bc z = All-head (λ q. RunsAs order b (right_items (p ∷ os)) bc (item_of q)) p os hb in
      let above = owners-above p os up in
      let lefts = All-left_items (λ y. order y z ≡ Greater) os above in
      let rights = right_items-above o z os shares above in
      let less = AllPairs-head (λ q r. order (item_of q) (item_of r) ≡ Less) p os up in
      let e = Equal-self o z in
      let before = ap₂ f
      (RunsAs-strictly order a (left_items (p ∷ os)) (left_items os) (in_left p) ac z e lefts (odd_below-left_items order p os z) runs_a)
      (RunsAs-strictly order b (right_items (p ∷ os)) (right_items os) (in_right p) bc z e rights (odd_below-right_items o p os z share) runs_b) in
      let here = ap₂ f
      (RunsAs-upto order a (left_items (p ∷ os)) (left_items os) (in_left p) ac z e lefts (member-left_items order p os z) runs_a)
      (RunsAs-upto order b (right_items (p ∷ os)) (right_items os) (in_right p) bc z e rights (member-right_items o p os z share) runs_b) in
      let rest = filter-walk f a b ac' bc' os (AllPairs-tail (λ q r. order (item_of q) (item_of r) ≡ Less) p os up) shares
      (λ k q within. let y = item_of (get_or os k q) in
      RunsAs-tail order a (left_items (p ∷ os)) (left_items os) (in_left p) ac z y (less k q within)
      (odd_below-left_items order p os y) (member-left_items order p os y) (All-tail (λ q. RunsAs order a (left_items (p ∷ os)) ac (item_of q)) p os ha k q within))
      (λ k q within. let y = item_of (get_or os k q) in
      RunsAs-tail order b (right_items (p ∷ os)) (right_items os) (in_right p) bc z y (less k q within)
      (odd_below-right_items o p os y share) (member-right_items o p os y share) (All-tail (λ q. RunsAs order b (right_items (p ∷ os)) bc (item_of q)) p os hb k q within)) in
      ap₂ (λ t w. cond t (taken_of p ∷ w) w)
      (ap (λ y. differ (answer_just_below order f a b y) (answer_at order f a b y)) (taken_item-taken_of p) ∙ ap₂ differ before here) rest
      ∙ sym (walk-cons f ac bc p os)

  RunsAs-start : (whole l : List K) → l ≡ whole → (z : K) → RunsAs order whole l false z
  RunsAs-start whole l same z = record {
    strictly = ap (λ l. odd_below order l z) (sym same);
    upto = ap (λ l. member order l z) (sym same);
  }

  pub changes-walk : (f : Table) (a b : List K) → IsOwners order a b (owners order a b) → changes order f a b ≡ walk f false false (owners order a b)
  unfolding changes
  changes-walk f a b io =
      filter-walk f a b false false (owners order a b) io.ascend io.equal
      (λ k q within. RunsAs-start a (left_items (owners order a b)) io.lefts _)
      (λ k q within. RunsAs-start b (right_items (owners order a b)) io.rights _)

  -- the members of the changes are those at which f's answer is another than where both sides are
  -- off
  pub members-changes : (f : Table) (a b : List K) → IsOwners order a b (owners order a b) → (x : K)
      → member order (taken_items (changes order f a b)) x ≡ differ (f false false) (f (member order a x) (member order b x))
  members-changes f a b io x =
      ap (λ ts. member order (taken_items ts) x) (changes-walk f a b io)
      ∙ members-walk f false false (owners order a b) x io.ascend io.equal
      ∙ ap₂ (λ l r. differ (f false false) (f (member order l x) (member order r x))) io.lefts io.rights

  -- the items of the changes ascend
  pub IsAscending-changes : (f : Table) (a b : List K) → IsOwners order a b (owners order a b) → IsAscending order (taken_items (changes order f a b))
  unfolding changes
  IsAscending-changes f a b io =
      let below = λ (s t : Taken K). order (taken_item s) (taken_item t) ≡ Less in
      let test = λ (t : Taken K). differ (answer_just_below order f a b (taken_item t)) (answer_at order f a b (taken_item t)) in
      let os = owners order a b in
      AllPairs-map (λ x y. order x y ≡ Less) taken_item (filter test (map taken_of os))
      (AllPairs-filter below test (map taken_of os)
      (AllPairs-map below taken_of os
      (λ i j d lt within. ap₂ order (taken_item-taken_of (get_or os i d)) (taken_item-taken_of (get_or os j d)) ∙ io.ascend i j d lt within)))

  pub Means-changes : (f : Table) (a b : List K) → f false false ≡ false → IsAscending order a → IsAscending order b → IsOwners order a b (owners order a b)
      → Means order f (taken_items (changes order f a b)) a b
  Means-changes f a b off p q io = record {
    sorted = IsAscending-changes f a b io;
    members = λ x. members-changes f a b io x ∙ ap (λ t. differ t (f (member order a x) (member order b x))) off;
  }

  pub Means-changes_opposite : (f : Table) (a b : List K) → f false false ≡ true → IsAscending order a → IsAscending order b → IsOwners order a b (owners order a b)
      → Means order (opposite f) (taken_items (changes order f a b)) a b
  Means-changes_opposite f a b on p q io = record {
    sorted = IsAscending-changes f a b io;
    members = λ x. members-changes f a b io x ∙ ap (λ t. differ t (f (member order a x) (member order b x))) on;
  }

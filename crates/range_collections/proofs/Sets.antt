-- Answers to questions about two sets, and the laws of the operations on them.
use Rattle.std.proofs.Common.{◌≡◌, ◌↔◌, ◌⊎◌, inl, inr, IsTrue, refl, sym, ap, ap₂, ◌∙◌, Bool, true, false, not, ◌&&◌, ◌||◌, List, [], ◌∷◌}
use Rattle.std.specs.Cmp.{IsTotalOrder}
use Rattle.std.specs.Cmp.Lexicographic.{pointwise}
use Rattle.std.specs.Ordering.{eq_by_cmp, is_eq}
use Rattle.std.specs.declared.cmp.Ordering.{Ordering}
use Rattle.std.specs.declared.cmp.Ordering.TheVariants.{Less, Equal, Greater}
use Rattle.range_merge.specs.Boundaries.{IsAscending, IsSameSet, member}
use Rattle.range_merge.specs.Changes.{Taken, taken_item, taken_items}
use Rattle.range_merge.specs.Connective.{Table, Means, differ, intersection_table, difference_table}
use Rattle.range_merge.specs.States.{any_item}
use Rattle.range_merge.proofs.SameSet.{same_items, IsSameSet-from_items, member-head}
use Rattle.range_collections.specs.Sets.{IsSubset, Intersects, IsDisjoint, HasMember, AreEqual}
use Rattle.range_merge.proofs.Members.{member-nil}

-- truths

true_from : (b : Bool) → (b ≡ false → ⊥) → b ≡ true
true_from true h = refl
true_from false h = absurd (h refl)

false_from : (b : Bool) → (b ≡ true → ⊥) → b ≡ false
false_from true h = absurd (h refl)
false_from false h = refl

not_both : (b : Bool) → b ≡ true → b ≡ false → ⊥
not_both true t f = cc
not_both false t f = cc

and-true : (p q : Bool) → (p && q) ≡ true → (p ≡ true) × (q ≡ true)
and-true true true e = (refl, refl)
and-true true false e = absurd (cc)
and-true false q e = absurd (cc)

same_from_both_ways : (p q : Bool) → (p ≡ true → q ≡ true) → (q ≡ true → p ≡ true) → p ≡ q
same_from_both_ways true q h k = sym (h refl)
same_from_both_ways false q h k = sym (false_from q (λ e. not_both false (k e) refl))

-- the opposite of a test
IsTrue-not : (r : Bool) (P Q : Type 0) → IsTrue r ↔ P → ((P → ⊥) → Q) → (Q → P → ⊥) → IsTrue (not r) ↔ Q
IsTrue-not true P Q h to from = (λ t. absurd (not_both false t refl), λ q. absurd (from q (h.0 refl)))
IsTrue-not false P Q h to from = (λ _. to (λ p. not_both false (h.1 p) refl), λ _. refl)

Equal-from_is_eq : (v : Ordering) → is_eq v ≡ true → v ≡ Equal
Equal-from_is_eq Less h = cc
Equal-from_is_eq Equal h = refl
Equal-from_is_eq Greater h = cc

-- tests

module _ {K : Type 0} {order : K → K → Ordering} (o : IsTotalOrder order) where
  -- a list that means a connective has an item exactly if the connective has a member
  HasMember-from_first : (f : Table) (x : K) (xs a b : List K) → Means order f (x ∷ xs) a b → HasMember order f a b
  HasMember-from_first f x xs a b m = (x, sym (m.members x) ∙ member-head o x xs m.sorted)

  none_in_nil : (f : Table) (a b : List K) → Means order f [] a b → HasMember order f a b → ⊥
  none_in_nil f a b m (x, h) = not_both (member order [] x) (m.members x ∙ h) (member-nil order x)

  pub IsTrue-has_member : (f : Table) (ts : List (Taken K)) (a b : List K) (r : Bool) → r ≡ any_item ts →
      Means order f (taken_items ts) a b → IsTrue r ↔ HasMember order f a b
  IsTrue-has_member f [] a b r e m = (λ t. absurd (not_both r t e), λ h. absurd (none_in_nil f a b m h))
  IsTrue-has_member f (t ∷ ts) a b r e m = (λ _. HasMember-from_first f (taken_item t) (taken_items ts) a b m, λ _. e)

  IsDisjoint-from_none : (a b : List K) → (HasMember order intersection_table a b → ⊥) → IsDisjoint order a b
  IsDisjoint-from_none a b none x p = false_from (member order b x) (λ q. none (x, ap₂ ◌&&◌ p q))

  none_from_IsDisjoint : (a b : List K) → IsDisjoint order a b → HasMember order intersection_table a b → ⊥
  none_from_IsDisjoint a b h (x, e) =
      let both = and-true (member order a x) (member order b x) e in
      not_both (member order b x) both.1 (h x both.0)

  pub IsTrue-intersecting : (a b : List K) (r : Bool) → IsTrue r ↔ HasMember order intersection_table a b → IsTrue r ↔ Intersects order a b
  IsTrue-intersecting a b r h = (
    λ t.
        let (x, e) = h.0 t in
        let both = and-true (member order a x) (member order b x) e in
        (x, both.0, both.1),
    λ i. h.1 (i.0, ap₂ ◌&&◌ i.1 i.2),
  )

  IsSubset-from_none : (a b : List K) → (HasMember order difference_table a b → ⊥) → IsSubset order a b
  IsSubset-from_none a b none x p = true_from (member order b x) (λ q. none (x, ap₂ (λ s t. s && not t) p q))

  none_from_IsSubset : (a b : List K) → IsSubset order a b → HasMember order difference_table a b → ⊥
  none_from_IsSubset a b h (x, e) =
      let both = and-true (member order a x) (not (member order b x)) e in
      not_both (not (member order b x)) both.1 (ap not (h x both.0))

  pub IsTrue-not_intersecting : (a b : List K) (r : Bool) → IsTrue r ↔ HasMember order intersection_table a b →
      IsTrue (not r) ↔ IsDisjoint order a b
  IsTrue-not_intersecting a b r h =
      IsTrue-not r (HasMember order intersection_table a b) (IsDisjoint order a b) h (IsDisjoint-from_none a b) (none_from_IsDisjoint a b)

  pub IsTrue-nothing_left : (a b : List K) (r : Bool) → IsTrue r ↔ HasMember order difference_table a b →
      IsTrue (not r) ↔ IsSubset order a b
  IsTrue-nothing_left a b r h =
      IsTrue-not r (HasMember order difference_table a b) (IsSubset order a b) h (IsSubset-from_none a b) (none_from_IsSubset a b)

-- equality

module _ {K : Type 0} {E : K → K → Bool} {order : K → K → Ordering} (o : IsTotalOrder order) (ties : (x y : K) → E x y ≡ eq_by_cmp order x y) where
  AreEqual-from_pointwise : (a b : List K) → pointwise E a b ≡ true → AreEqual order a b
  AreEqual-from_pointwise [] [] e = tt
  AreEqual-from_pointwise [] (y ∷ ys) e = not_both false e refl
  AreEqual-from_pointwise (x ∷ xs) [] e = not_both false e refl
  AreEqual-from_pointwise (x ∷ xs) (y ∷ ys) e =
      let both = and-true (E x y) (pointwise E xs ys) e in
      (Equal-from_is_eq (order x y) (sym (ties x y) ∙ both.0), AreEqual-from_pointwise xs ys both.1)

  pointwise-from_AreEqual : (a b : List K) → AreEqual order a b → pointwise E a b ≡ true
  pointwise-from_AreEqual [] [] h = refl
  pointwise-from_AreEqual [] (y ∷ ys) h = absurd h
  pointwise-from_AreEqual (x ∷ xs) [] h = absurd h
  pointwise-from_AreEqual (x ∷ xs) (y ∷ ys) h = ap₂ ◌&&◌ (ties x y ∙ ap is_eq h.0) (pointwise-from_AreEqual xs ys h.1)

  -- what `==` says of the lists xs and ys, which are a and b
  pub IsTrue-pointwise : (a b xs ys : List K) (r : Bool) → xs ≡ a → ys ≡ b → IsAscending order xs → IsAscending order ys →
      r ≡ pointwise E xs ys → IsTrue r ↔ IsSameSet order a b
  IsTrue-pointwise a b xs ys r s t p q e =
      rw (← s, ← t) (
        λ h. IsSameSet-from_items o xs ys (AreEqual-from_pointwise xs ys (sym e ∙ h)),
        λ h. e ∙ pointwise-from_AreEqual xs ys (same_items o xs ys p q h),
      )

-- laws

module _ {K : Type 0} {order : K → K → Ordering} (o : IsTotalOrder order) where
  pub AreEqual-same_results : (f : Table) (a b a2 b2 r s : List K) → Means order f r a b → Means order f s a2 b2 →
      IsSameSet order a a2 → IsSameSet order b b2 → AreEqual order r s
  AreEqual-same_results f a b a2 b2 r s m n h k =
      same_items o r s m.sorted n.sorted (λ x. m.members x ∙ ap₂ f (h x) (k x) ∙ sym (n.members x))

  pub AreEqual-exchanged : (f : Table) → ((p q : Bool) → f p q ≡ f q p) → (a b r s : List K) →
      Means order f r a b → Means order f s b a → AreEqual order r s
  AreEqual-exchanged f comm a b r s m n =
      same_items o r s m.sorted n.sorted (λ x. m.members x ∙ comm (member order a x) (member order b x) ∙ sym (n.members x))

  pub AreEqual-regrouped : (f : Table) → ((p q t : Bool) → f (f p q) t ≡ f p (f q t)) → (a b c ab bc r s : List K) →
      Means order f ab a b → Means order f r ab c → Means order f bc b c → Means order f s a bc → AreEqual order r s
  AreEqual-regrouped f assoc a b c ab bc r s left m right n =
      same_items o r s m.sorted n.sorted (λ x.
      m.members x
      ∙ ap (λ t. f t (member order c x)) (left.members x)
      ∙ assoc (member order a x) (member order b x) (member order c x)
      ∙ ap (f (member order a x)) (sym (right.members x))
      ∙ sym (n.members x))

  pub AreEqual-from_subsets : (a b : List K) → IsAscending order a → IsAscending order b → IsSubset order a b → IsSubset order b a →
      AreEqual order a b
  AreEqual-from_subsets a b p q h k =
      same_items o a b p q (λ x. same_from_both_ways (member order a x) (member order b x) (h x) (k x))

  -- the list of a result is empty exactly if the connective has no member
  nil_from_none : (f : Table) (r a b : List K) → Means order f r a b → (HasMember order f a b → ⊥) → r ≡ []
  nil_from_none f [] a b m none = refl
  nil_from_none f (x ∷ xs) a b m none = absurd (none (HasMember-from_first o f x xs a b m))

  none_from_nil : (f : Table) (r a b : List K) → Means order f r a b → r ≡ [] → HasMember order f a b → ⊥
  none_from_nil f [] a b m e h = none_in_nil o f a b m h
  none_from_nil f (x ∷ xs) a b m e h = cc

  pub IsDisjoint-nil : (a b r : List K) → Means order intersection_table r a b → IsDisjoint order a b ↔ (r ≡ [])
  IsDisjoint-nil a b r m = (
    λ h. nil_from_none intersection_table r a b m (none_from_IsDisjoint o a b h),
    λ e. IsDisjoint-from_none o a b (none_from_nil intersection_table r a b m e),
  )

  pub IsSubset-nil : (a b r : List K) → Means order difference_table r a b → IsSubset order a b ↔ (r ≡ [])
  IsSubset-nil a b r m = (
    λ h. nil_from_none difference_table r a b m (none_from_IsSubset o a b h),
    λ e. IsSubset-from_none o a b (none_from_nil difference_table r a b m e),
  )

-- the tables of the operations with their sides exchanged, and of three sides

pub or-comm : (p q : Bool) → (p || q) ≡ (q || p)
or-comm true true = refl
or-comm true false = refl
or-comm false true = refl
or-comm false false = refl

pub and-comm : (p q : Bool) → (p && q) ≡ (q && p)
and-comm true true = refl
and-comm true false = refl
and-comm false true = refl
and-comm false false = refl

pub or-assoc : (p q t : Bool) → ((p || q) || t) ≡ (p || (q || t))
or-assoc true q t = refl
or-assoc false q t = refl

pub and-assoc : (p q t : Bool) → ((p && q) && t) ≡ (p && (q && t))
and-assoc true q t = refl
and-assoc false q t = refl

-- when r, which one of the four tables makes of p and q, is true

pub true-either : (r p q : Bool) → r ≡ (p || q) → (r ≡ true) ↔ ((p ≡ true) ⊎ (q ≡ true))
true-either r true q e = (λ _. inl refl, λ _. e)
true-either r false true e = (λ _. inr refl, λ _. e)
true-either r false false e = (
  λ t. absurd (not_both r t e),
  λ h.
      elim h as (λ _. r ≡ true) [
        | inl p ↦ absurd (not_both false p refl)
        | inr q ↦ absurd (not_both false q refl)
      ],
)

pub true-both : (r p q : Bool) → r ≡ (p && q) → (r ≡ true) ↔ ((p ≡ true) × (q ≡ true))
true-both r true true e = (λ _. (refl, refl), λ _. e)
true-both r true false e = (λ t. absurd (not_both r t e), λ h. absurd (not_both false h.1 refl))
true-both r false q e = (λ t. absurd (not_both r t e), λ h. absurd (not_both false h.0 refl))

pub true-first_alone : (r p q : Bool) → r ≡ (p && not q) → (r ≡ true) ↔ ((p ≡ true) × (q ≡ false))
true-first_alone r true false e = (λ _. (refl, refl), λ _. e)
true-first_alone r true true e = (λ t. absurd (not_both r t e), λ h. absurd (not_both true refl h.1))
true-first_alone r false q e = (λ t. absurd (not_both r t e), λ h. absurd (not_both false h.0 refl))

pub true-one_alone : (r p q : Bool) → r ≡ differ p q → (r ≡ true) ↔ (((p ≡ true) × (q ≡ false)) ⊎ ((p ≡ false) × (q ≡ true)))
true-one_alone r true false e = (λ _. inl (refl, refl), λ _. e)
true-one_alone r false true e = (λ _. inr (refl, refl), λ _. e)
true-one_alone r true true e = (
  λ t. absurd (not_both r t e),
  λ h.
      elim h as (λ _. r ≡ true) [
        | inl left ↦ absurd (not_both true refl left.1)
        | inr right ↦ absurd (not_both true refl right.0)
      ],
)
true-one_alone r false false e = (
  λ t. absurd (not_both r t e),
  λ h.
      elim h as (λ _. r ≡ true) [
        | inl left ↦ absurd (not_both false left.0 refl)
        | inr right ↦ absurd (not_both false right.1 refl)
      ],
)

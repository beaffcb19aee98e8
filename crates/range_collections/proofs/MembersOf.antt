-- The list of the members among values in a row: by its first value, by its last, and where none is
-- a member.
use Rattle.std.proofs.Common.{◌≡◌, refl, sym, ap, ap₂, ◌∙◌, subst, ℕ, zero, suc, ◌<◌, ◌≤◌, ◌+◌, Bool, true, false, cond, All, List, [], ◌∷◌, ◌++◌, length, length-append, arith}
use Rattle.std.proofs.lemmas.List.Elements.{All-nil, All-cons}
use Rattle.std.specs.declared.cmp.Ordering.{Ordering}
use Rattle.range_merge.specs.Boundaries.{member}
use Rattle.range_merge.proofs.Members.{member-nil}
use Rattle.range_collections.specs.Covered.{members_below}
use Rattle.range_collections.specs.Members.{members_of}
use Rattle.range_collections.proofs.Counted.{bit, members_below-zero, members_below-suc}

module _ {K : Type 0} (order : K → K → Ordering) (value : ℕ → K) where
  pub members_of-zero : (items : List K) (p : ℕ) → members_of order value items p 0 ≡ []
  unfolding members_of
  members_of-zero items p = refl

  members_of-suc : (items : List K) (p n : ℕ) → members_of order value items p (suc n)
      ≡ cond (member order items (value p)) (value p ∷ members_of order value items (p + 1) n) (members_of order value items (p + 1) n)
  unfolding members_of
  members_of-suc items p n = refl

  pub members_of-in : (items : List K) (p n : ℕ) → member order items (value p) ≡ true →
      members_of order value items p (suc n) ≡ value p ∷ members_of order value items (p + 1) n
  members_of-in items p n m =
      members_of-suc items p n ∙ ap (λ t. cond t (value p ∷ members_of order value items (p + 1) n) (members_of order value items (p + 1) n)) m

  members_of-out : (items : List K) (p n : ℕ) → member order items (value p) ≡ false →
      members_of order value items p (suc n) ≡ members_of order value items (p + 1) n
  members_of-out items p n m =
      members_of-suc items p n ∙ ap (λ t. cond t (value p ∷ members_of order value items (p + 1) n) (members_of order value items (p + 1) n)) m

  -- where no value from p on, up to q, is a member
  pub members_of-skip : (items : List K) (k p q n : ℕ) → p + k ≡ q → ((i : ℕ) → p ≤ i → i < q → member order items (value i) ≡ false) →
      members_of order value items p (k + n) ≡ members_of order value items q n
  members_of-skip items zero p q n at off = ap₂ (members_of order value items) (omega (arith, at)) (omega arith)
  members_of-skip items (suc k) p q n at off =
      let more : suc k + n ≡ suc (k + n) = omega arith in
      ap (members_of order value items p) more
      ∙ members_of-out items p (k + n) (off p (omega arith) (omega (arith, at)))
      ∙ members_of-skip items k (p + 1) q n (omega (arith, at)) (λ i a b. off i (omega (arith, a)) b)

  -- where no value is a member
  pub members_of-none : (items : List K) (p n : ℕ) → ((i : ℕ) → p ≤ i → i < p + n → member order items (value i) ≡ false) →
      members_of order value items p n ≡ []
  members_of-none items p n off =
      let all : n ≡ n + 0 = omega arith in
      ap (members_of order value items p) all ∙ members_of-skip items n p (p + n) 0 refl off ∙ members_of-zero items (p + n)

  -- lists with the same members
  pub members_of-same : (a b : List K) (p n : ℕ) → ((i : ℕ) → p ≤ i → i < p + n → member order a (value i) ≡ member order b (value i)) →
      members_of order value a p n ≡ members_of order value b p n
  members_of-same a b p zero same = members_of-zero a p ∙ sym (members_of-zero b p)
  members_of-same a b p (suc n) same =
      members_of-suc a p n
      ∙ ap₂ (λ t l. cond t (value p ∷ l) l) (same p (omega arith) (omega arith)) (members_of-same a b (p + 1) n (λ i low less. same i (omega (arith, low)) (omega (arith, less))))
      ∙ sym (members_of-suc b p n)

  -- the members among the first values, and those among the others
  pub members_of-append : (items : List K) (p m n q : ℕ) → p + m ≡ q →
      members_of order value items p (m + n) ≡ members_of order value items p m ++ members_of order value items q n
  members_of-append items p zero n q at =
      ap₂ (members_of order value items) (omega (arith, at)) (omega arith) ∙ ap (λ l. l ++ members_of order value items q n) (sym (members_of-zero items p))
  members_of-append items p (suc m) n q at =
      let more : suc m + n ≡ suc (m + n) = omega arith in
      ap (members_of order value items p) more
      ∙ members_of-suc items p (m + n)
      ∙ ap (λ l. cond (member order items (value p)) (value p ∷ l) l) (members_of-append items (p + 1) m n q (omega (arith, at)))
      ∙ join (member order items (value p)) (value p) (members_of order value items (p + 1) m) (members_of order value items q n)
      ∙ ap (λ l. l ++ members_of order value items q n) (sym (members_of-suc items p m))
    where
      join : (t : Bool) (x : K) (a b : List K) → cond t (x ∷ (a ++ b)) (a ++ b) ≡ cond t (x ∷ a) a ++ b
      join true x a b = refl
      join false x a b = refl

  -- no boundaries, no members
  pub members_of-nil : (p n : ℕ) → members_of order value [] p n ≡ []
  members_of-nil p n = members_of-none [] p n (λ i a b. member-nil order (value i))

  -- as many as are counted
  pub length-members_of : (items : List K) (n : ℕ) → length (members_of order value items 0 n) ≡ members_below order value items n
  length-members_of items zero = ap length (members_of-zero items 0) ∙ sym (members_below-zero order value items)
  length-members_of items (suc n) =
      let more : suc n ≡ n + 1 = omega arith in
      omega (
        arith,
        ap (λ m. length (members_of order value items 0 m)) more ∙ ap length (members_of-append items 0 n 1 n (omega arith)),
        length-append (members_of order value items 0 n) (members_of order value items n 1),
        length-members_of items n,
        members_below-suc order value items n,
        one_more (member order items (value n)) refl,
      )
    where
      one_more : (t : Bool) → member order items (value n) ≡ t → length (members_of order value items n 1) ≡ bit (member order items (value n))
      one_more true m = ap length (members_of-in items n 0 m ∙ ap (λ l. value n ∷ l) (members_of-zero items (n + 1))) ∙ ap bit (sym m)
      one_more false m = ap length (members_of-out items n 0 m ∙ members_of-zero items (n + 1)) ∙ ap bit (sym m)

  -- members alone
  pub All-members_of : (items : List K) (p n : ℕ) → All (λ x. member order items x ≡ true) (members_of order value items p n)
  All-members_of items p zero = subst (All (λ x. member order items x ≡ true)) (sym (members_of-zero items p)) (All-nil (λ x. member order items x ≡ true))
  All-members_of items p (suc n) = by_test (All-members_of items (p + 1) n) (member order items (value p)) refl
    where
      by_test : All (λ x. member order items x ≡ true) (members_of order value items (p + 1) n) → (t : Bool) → member order items (value p) ≡ t →
          All (λ x. member order items x ≡ true) (members_of order value items p (suc n))
      by_test rest true m =
          subst (All (λ x. member order items x ≡ true)) (sym (members_of-in items p n m))
          (All-cons (λ x. member order items x ≡ true) (value p) (members_of order value items (p + 1) n) m rest)
      by_test rest false m = subst (All (λ x. member order items x ≡ true)) (sym (members_of-out items p n m)) rest

-- How many values are members: of a range, and of the union and the intersection of two sets with
-- an end.
use Rattle.std.proofs.Common.{◌≡◌, refl, sym, ap, ap₂, ◌∙◌, ℕ, ◌+◌, ◌-◌, ◌<◌, Bool, true, false, cond, ◌&&◌, ◌||◌, List, [], ◌∷◌, length, Some, None, arith, All}
use Rattle.std.specs.Cmp.{IsTotalOrder, ranks}
use Rattle.std.specs.Ordering.{is_le, is_lt, nat_cmp}
use Rattle.std.specs.declared.cmp.Ordering.{Ordering}
use Rattle.std.specs.declared.cmp.Ordering.TheVariants.{Less, Equal, Greater}
use Rattle.std.proofs.lemmas.Cmp.{by_ranked}
use Rattle.std.proofs.lemmas.List.Elements.{All-nil, All-cons}
use Rattle.range_merge.specs.Boundaries.{member, is_odd}
use Rattle.range_merge.specs.Connective.{Table, Means, union_table, intersection_table}
use Rattle.range_merge.proofs.Members.{by_Ordering}
use Rattle.range_merge.proofs.Orders.{Equal-self}
use Rattle.range_collections.specs.Covered.{members_below, covered_of}
use Rattle.range_collections.specs.Ranges.{range_items}
use Rattle.range_collections.proofs.Counted.{bit, members_below-nil, members_below-balance, members_below-range}
use Rattle.range_collections.proofs.Shortest.{is_le-cases, count_up_to-all, le-trans, le-from_greater}

-- where there is a number, the list has an end, and the number is that of the members
module _ {K : Type 0} (order : K → K → Ordering) (value : ℕ → K) (count : ℕ) where
  pub has_end : (items : List K) (n : ℕ) → covered_of order value count items ≡ Some n →
      (is_odd (length items) ≡ false) × (members_below order value items count ≡ n)
  has_end items n h = by_parity (is_odd (length items)) refl h
    where
      inside : (a b : ℕ) → Some a ≡ Some b → a ≡ b
      inside a b e = cc

      by_parity : (b : Bool) → is_odd (length items) ≡ b → cond b None (Some (members_below order value items count)) ≡ Some n →
          (is_odd (length items) ≡ false) × (members_below order value items count ≡ n)
      by_parity true e k = absurd (None≢Some k)
        where
          None≢Some : None ≡ Some n → ⊥
          None≢Some z = cc
      by_parity false e k = (e, inside (members_below order value items count) n k)

  pub covered_of-even : (items : List K) → is_odd (length items) ≡ false → covered_of order value count items ≡ Some (members_below order value items count)
  covered_of-even items e = ap (λ b. cond b None (Some (members_below order value items count))) e

module _ {K : Type 0} {order : K → K → Ordering} (o : IsTotalOrder order) where
  -- an element at or above another and at or above all items
  above_all : (x : K) (items : List K) → (m : K) × (is_le (order x m) ≡ true) × All (λ y. is_le (order y m) ≡ true) items
  above_all x [] = (x, ap is_le (Equal-self o x), All-nil (λ y. is_le (order y x) ≡ true))
  above_all x (y ∷ items) =
      let (m, far, all) = above_all x items in
      is_le-cases (order y m)
      (λ t. (m, far, All-cons (λ z. is_le (order z m) ≡ true) y items t all))
      (λ g.
      let up = le-from_greater o y m g in (
        y,
        le-trans o x m y far up,
        All-cons (λ z. is_le (order z y) ≡ true) y items (ap is_le (Equal-self o y)) (λ k d within. le-trans o _ m y (all k d within) up),
      ))

  -- where two sets have an end, what a connective makes of them has one, if it is off where both
  -- are
  pub even-result : (f : Table) → f false false ≡ false → (a b r : List K) → Means order f r a b →
      is_odd (length a) ≡ false → is_odd (length b) ≡ false → is_odd (length r) ≡ false
  even-result f off a b [] m p q = refl
  even-result f off a b (x ∷ r) m p q =
      let (i, at_x, over_r) = above_all x (x ∷ r) in
      let (j, at_i, over_a) = above_all i a in
      let (k, at_j, over_b) = above_all j b in
      let in_r = count_up_to-all order k (x ∷ r) (λ n d within. le-trans o _ i k (over_r n d within) (le-trans o i j k at_i at_j)) in
      let in_a = count_up_to-all order k a (λ n d within. le-trans o _ j k (over_a n d within) at_j) in
      let in_b = count_up_to-all order k b over_b in
      ap is_odd (sym in_r) ∙ m.members k ∙ ap₂ f (ap is_odd in_a ∙ p) (ap is_odd in_b ∙ q) ∙ off

  balance : (p q : Bool) → bit (p || q) + bit (p && q) ≡ bit p + bit q
  balance true true = refl
  balance true false = refl
  balance false true = refl
  balance false false = refl

  -- union and intersection together have as many members as both sets
  pub covered_of-both : (value : ℕ → K) (count : ℕ) (a b either both : List K) (m n : ℕ) → Means order union_table either a b → Means order intersection_table both a b →
      covered_of order value count a ≡ Some m → covered_of order value count b ≡ Some n →
      (k : ℕ) × (l : ℕ) × (covered_of order value count either ≡ Some k) × (covered_of order value count both ≡ Some l) × (k + l ≡ m + n)
  covered_of-both value count a b either both m n u i h k =
      let (even_a, is_m) = has_end order value count a m h in
      let (even_b, is_n) = has_end order value count b n k in (
        members_below order value either count,
        members_below order value both count,
        covered_of-even order value count either (even-result union_table refl a b either u even_a even_b),
        covered_of-even order value count both (even-result intersection_table refl a b both i even_a even_b),
        members_below-balance order value either both a b count
            (λ j _. ap₂ (λ p q. bit p + bit q) (u.members (value j)) (i.members (value j)) ∙ balance (member order a (value j)) (member order b (value j)))
            ∙ ap₂ (λ x y. x + y) is_m is_n,
      )

module _ {K : Type 0} {order : K → K → Ordering} (o : IsTotalOrder order) (is_value : K → Type 0) (value : ℕ → K) (place : K → ℕ) (count : ℕ)
    (value_is_value : (n : ℕ) → n < count → is_value (value n))
    (place_of_value : (n : ℕ) → n < count → place (value n) ≡ n)
    (place_fits : (x : K) → is_value x → place x < count)
    (in_order : (x y : K) → is_value x → is_value y → order x y ≡ nat_cmp (place x) (place y)) where
  pub covered_of-range : (start end : K) → is_value start → is_value end → covered_of order value count (range_items order start end) ≡ Some (place end - place start)
  covered_of-range start end v w =
      by_Ordering (order start end)
      (λ less.
      ap (λ t. covered_of order value count (cond t (start ∷ end ∷ []) [])) (ap is_lt less)
      ∙ ap Some (members_below-range o is_value value place count value_is_value place_of_value place_fits in_order start end v w less))
      (λ same. nothing (ap is_lt same) (λ more. Equal≢Less (sym same ∙ more)))
      (λ past. nothing (ap is_lt past) (λ more. Greater≢Less (sym past ∙ more)))
    where
      Equal≢Less : Equal ≡ Less → ⊥
      Equal≢Less e = cc

      Greater≢Less : Greater ≡ Less → ⊥
      Greater≢Less e = cc

      none_between : (order start end ≡ Less → ⊥) → 0 ≡ place end - place start
      none_between never =
          by_ranked (place start < place end) (place start ≡ place end) (place end < place start) (nat_cmp (place start) (place end)) (ranks (place start) (place end))
          (λ e _. absurd (never (in_order start end v w ∙ e)))
          (λ _ same. omega (arith, same))
          (λ _ past. omega (arith, past))

      nothing : is_lt (order start end) ≡ false → (order start end ≡ Less → ⊥) → covered_of order value count (range_items order start end) ≡ Some (place end - place start)
      nothing off never =
          ap (λ t. covered_of order value count (cond t (start ∷ end ∷ []) [])) off
          ∙ ap Some (members_below-nil order value count ∙ none_between never)

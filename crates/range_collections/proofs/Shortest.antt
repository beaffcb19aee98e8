-- Counts of boundaries along an order, and how short a list with given members can be.
use Rattle.std.proofs.Common.{◌≡◌, refl, sym, ap, ◌∙◌, subst, ℕ, zero, suc, inl, inr, ◌<◌, ◌≤◌, ◌+◌, Bool, true, false, not, List, [], ◌∷◌, ◌++◌, length, filter, get_or, arith, All, length-append, add-one}
use Rattle.std.proofs.lemmas.Bool.{cases_lt, true≢false}
use Rattle.std.proofs.lemmas.List.Elements.{filter-append, All-head, All-tail}
use Rattle.std.specs.Cmp.{IsTotalOrder}
use Rattle.std.proofs.lemmas.List.{get_or_default}
use Rattle.std.proofs.lemmas.Cmp.{alike_right, tied_itself}
use Rattle.std.specs.declared.cmp.Ordering.{Ordering}
use Rattle.std.specs.declared.cmp.Ordering.TheVariants.{Less, Equal, Greater}
use Rattle.std.specs.Ordering.{is_le}
use Rattle.range_merge.specs.Boundaries.{IsAscending, count_up_to, member, is_odd}
use Rattle.range_merge.proofs.Members.{by_Ordering, count_up_to-nil}
use Rattle.range_merge.proofs.Orders.{Less-from_greater}
use Rattle.range_merge.proofs.Parity.{is_odd-suc}
use Rattle.range_collections.proofs.CountUpTo.{count_up_to-cons_in, count_up_to-cons_out, count_up_to-found}

pub is_le-cases : {G : Type 0} (r : Ordering) → (is_le r ≡ true → G) → (r ≡ Greater → G) → G
is_le-cases Less t f = t refl
is_le-cases Equal t f = t refl
is_le-cases Greater t f = f refl

module _ {K : Type 0} (order : K → K → Ordering) where
  pub count_up_to-append : (xs ys : List K) (x : K) → count_up_to order (xs ++ ys) x ≡ count_up_to order xs x + count_up_to order ys x
  unfolding count_up_to
  count_up_to-append xs ys x =
      ap length (filter-append (λ z. is_le (order z x)) xs ys) ∙ length-append (filter (λ z. is_le (order z x)) xs) (filter (λ z. is_le (order z x)) ys)

  -- all items are at or below x
  pub count_up_to-all : (x : K) (xs : List K) → All (λ y. is_le (order y x) ≡ true) xs → count_up_to order xs x ≡ length xs
  count_up_to-all x [] h = count_up_to-nil order x
  count_up_to-all x (y ∷ ys) h =
      count_up_to-cons_in order y ys x (All-head (λ z. is_le (order z x) ≡ true) y ys h) ∙ ap suc (count_up_to-all x ys (All-tail (λ z. is_le (order z x) ≡ true) y ys h))

  -- all items are above x
  pub count_up_to-none : (x : K) (xs : List K) → All (λ y. order y x ≡ Greater) xs → count_up_to order xs x ≡ 0
  count_up_to-none x [] h = count_up_to-nil order x
  count_up_to-none x (y ∷ ys) h =
      count_up_to-cons_out order y ys x (ap is_le (All-head (λ z. order z x ≡ Greater) y ys h)) ∙ count_up_to-none x ys (All-tail (λ z. order z x ≡ Greater) y ys h)

  pub count_up_to-le_length : (x : K) (xs : List K) → count_up_to order xs x ≤ length xs
  count_up_to-le_length x [] = omega (arith, count_up_to-nil order x)
  count_up_to-le_length x (y ∷ ys) =
      is_le-cases (order y x)
      (λ t. omega (arith, count_up_to-cons_in order y ys x t, count_up_to-le_length x ys))
      (λ g. omega (arith, count_up_to-cons_out order y ys x (ap is_le g), count_up_to-le_length x ys))

module _ {K : Type 0} {order : K → K → Ordering} (o : IsTotalOrder order) where
  pub Less-from_le : (x y z : K) → is_le (order x y) ≡ true → order y z ≡ Less → order x z ≡ Less
  Less-from_le x y z h l =
      by_Ordering (order x y) (λ e. o.trans x y z e l) (λ e. o.congr x y z e ∙ l)
      (λ e. absurd (true≢false (sym h ∙ ap is_le e)))

  pub Less-then_le : (x y z : K) → order x y ≡ Less → is_le (order y z) ≡ true → order x z ≡ Less
  Less-then_le x y z l h =
      by_Ordering (order y z) (λ e. o.trans x y z l e) (λ e. sym (alike_right o y z x e) ∙ l)
      (λ e. absurd (true≢false (sym h ∙ ap is_le e)))

  pub le-trans : (x y z : K) → is_le (order x y) ≡ true → is_le (order y z) ≡ true → is_le (order x z) ≡ true
  le-trans x y z h k =
      by_Ordering (order x y) (λ e. ap is_le (Less-then_le x y z e k)) (λ e. ap is_le (o.congr x y z e) ∙ k)
      (λ e. absurd (true≢false (sym h ∙ ap is_le e)))

  -- what is not at or below is above
  pub le-from_greater : (x y : K) → order x y ≡ Greater → is_le (order y x) ≡ true
  le-from_greater x y g = ap is_le (Less-from_greater o x y g)

  -- no fewer boundaries are at or below the greater of two
  pub count_up_to-mono : (x y : K) → order x y ≡ Less → (zs : List K) → count_up_to order zs x ≤ count_up_to order zs y
  count_up_to-mono x y l [] = omega (arith, count_up_to-nil order x, count_up_to-nil order y)
  count_up_to-mono x y l (z ∷ zs) =
      is_le-cases (order z x)
      (λ t. omega (arith, count_up_to-cons_in order z zs x t, count_up_to-cons_in order z zs y (ap is_le (Less-from_le z x y t l)), count_up_to-mono x y l zs))
      (λ g.
      let out = count_up_to-cons_out order z zs x (ap is_le g) in
      is_le-cases (order z y)
      (λ t. omega (arith, out, count_up_to-cons_in order z zs y t, count_up_to-mono x y l zs))
      (λ h. omega (arith, out, count_up_to-cons_out order z zs y (ap is_le h), count_up_to-mono x y l zs)))

  -- a count that has the parity of k + 1 and is at least k is at least k + 1
  step_up : (k n : ℕ) → is_odd n ≡ is_odd (suc k) → k ≤ n → suc k ≤ n
  step_up k n e h =
      elim (cases_lt k n) as (λ _. suc k ≤ n) [
        | inl less ↦ less
        | inr more ↦
            let same : n ≡ k = omega arith in
            let f : is_odd k ≡ not (is_odd k) = ap is_odd (sym same) ∙ e ∙ is_odd-suc k in
            absurd (not-self (is_odd k) f)
      ]
    where
      not-self : (b : Bool) → b ≡ not b → ⊥
      not-self true h = cc
      not-self false h = cc

  -- at an item of an ascending list, that item and those before it are at or below it
  pub count_up_to-item : (ps : List K) → IsAscending order ps → (k : ℕ) (d : K) → k < length ps → count_up_to order ps (get_or ps k d) ≡ suc k
  count_up_to-item ps up k d within =
      count_up_to-found order o (get_or ps k d) ps k up within
      (λ e. subst (λ z. order z (get_or ps k d) ≡ Equal) (get_or_default ps k d e within) (tied_itself o (get_or ps k d)))
      ∙ add-one k

  -- a list with the members of ps at each item of ps counts up along those items
  climb : (ps : List K) → IsAscending order ps → (other : List K) →
      All (λ p. member order other p ≡ member order ps p) ps → (k : ℕ) (d : K) → k < length ps →
      suc k ≤ count_up_to order other (get_or ps k d)
  climb ps up other same zero d within =
      step_up zero (count_up_to order other (get_or ps zero d)) (same zero d within ∙ ap is_odd (count_up_to-item ps up zero d within)) (omega arith)
  climb ps up other same (suc k) d within =
      let before : suc k ≤ count_up_to order other (get_or ps k d) = climb ps up other same k d (omega arith) in
      let rise : count_up_to order other (get_or ps k d) ≤ count_up_to order other (get_or ps (suc k) d) =
      count_up_to-mono (get_or ps k d) (get_or ps (suc k) d) (up k (suc k) d (omega arith) within) other in
      step_up (suc k) (count_up_to order other (get_or ps (suc k) d))
      (same (suc k) d within ∙ ap is_odd (count_up_to-item ps up (suc k) d within)) (omega (arith, before, rise))

  -- no list with the members of ps at each item of ps is shorter
  pub length-least : (ps : List K) → IsAscending order ps → (other : List K) →
      All (λ p. member order other p ≡ member order ps p) ps → length ps ≤ length other
  length-least [] up other same = omega arith
  length-least (p ∷ ps) up other same =
      omega (arith, climb (p ∷ ps) up other same (length ps) p (omega arith), count_up_to-le_length order (get_or (p ∷ ps) (length ps) p) other)

-- The ranges of a strictly sorted list: how many, that each has an element, how they lie, and what
-- they have together.
use Rattle.std.proofs.Common.{◌≡◌, ◌↔◌, refl, sym, ap, ap₂, ◌∙◌, subst, ℕ, zero, suc, ◌<◌, ◌+◌, ◌/◌, Bool, true, false, List, [], ◌∷◌, length, get_or, arith, All}
use Rattle.std.specs.List.{Any, AllAdjacentBelow}
use Rattle.std.specs.Cmp.{IsTotalOrder}
use Rattle.std.proofs.lemmas.Bool.{true≢false}
use Rattle.std.proofs.lemmas.List.Elements.{All-nil, All-cons}
use Rattle.std.specs.declared.cmp.Ordering.{Ordering}
use Rattle.std.specs.declared.cmp.Ordering.TheVariants.{Less, Greater}
use Rattle.std.specs.Ordering.{is_le}
use Rattle.range_merge.specs.Boundaries.{IsAscending, member}
use Rattle.range_merge.specs.Connective.{differ}
use Rattle.range_merge.proofs.Members.{member-nil, member-cons, member-above}
use Rattle.range_merge.proofs.Orders.{Equal-self, Greater-from_less, Less-from_greater}
use Rattle.range_merge.proofs.Parity.{differ-false}
use Rattle.range_collections.specs.Ranges.{ranges_of, range_start, IsInRange, EndsBelow}
use Rattle.range_collections.proofs.Ascending.{IsAscending-head, IsAscending-tail}
use Rattle.range_collections.proofs.Shortest.{is_le-cases, Less-from_le, le-trans, le-from_greater}

module _ {X : Type 0} (P : X → Type 0) where
  Any-here : (x : X) (xs : List X) → P x → Any P (x ∷ xs)
  Any-here x xs p = (0, x, omega arith, refl, p)

  Any-there : (x : X) (xs : List X) → Any P xs → Any P (x ∷ xs)
  Any-there x xs (k, y, within, is, p) = (suc k, y, omega arith, is, p)

  Any-cons_cases : {G : Type 0} (x : X) (xs : List X) → Any P (x ∷ xs) → (P x → G) → (Any P xs → G) → G
  Any-cons_cases x xs (zero, y, within, is, p) here there = here (subst P (sym is) p)
  Any-cons_cases x xs (suc k, y, within, is, p) here there = there (k, y, omega arith, is, p)

  Any-nil : Any P [] → ⊥
  Any-nil (k, y, within, is, p) = absurd (omega arith)

suc-add_one : (k : ℕ) → suc k + 1 ≡ suc (k + 1)
suc-add_one k = omega arith

half-more : (n : ℕ) → (suc (suc n) + 1) / 2 ≡ suc ((n + 1) / 2)
half-more n = omega arith

pub length-ranges_of : {K : Type 0} → (items : List K) → length (ranges_of items) ≡ (length items + 1) / 2
length-ranges_of [] = refl
length-ranges_of (x ∷ []) = refl
length-ranges_of (x ∷ y ∷ rest) = ap suc (length-ranges_of rest) ∙ sym (half-more (length rest))

module _ {K : Type 0} {order : K → K → Ordering} (o : IsTotalOrder order) where
  -- each range has its start
  pub All-ranges_have : (items : List K) → IsAscending order items → All (λ r. (x : K) × IsInRange order r x) (ranges_of items)
  All-ranges_have [] up = All-nil (λ r. (x : K) × IsInRange order r x)
  All-ranges_have (x ∷ []) up =
      All-cons (λ r. (x : K) × IsInRange order r x) _ [] (x, ap is_le (Equal-self o x)) (All-nil (λ r. (x : K) × IsInRange order r x))
  All-ranges_have (x ∷ y ∷ rest) up =
      All-cons (λ r. (x : K) × IsInRange order r x) _ (ranges_of rest) (x, (ap is_le (Equal-self o x), up 0 1 x (omega arith) (omega arith)))
      (All-ranges_have rest (IsAscending-tail order y rest (IsAscending-tail order x (y ∷ rest) up)))

  -- the first range of the items after y starts above y
  first_above : (y : K) (rest : List K) → IsAscending order (y ∷ rest) → (d : _) → 0 < length (ranges_of rest) →
      order y (range_start (get_or (ranges_of rest) 0 d)) ≡ Less
  first_above y [] up d some = absurd (omega arith)
  first_above y (z ∷ []) up d some = up 0 1 y (omega arith) (omega arith)
  first_above y (z ∷ w ∷ rest) up d some = up 0 1 y (omega arith) (omega arith)

  -- each range ends below the start of the next
  pub ranges_apart : (items : List K) → IsAscending order items → AllAdjacentBelow (EndsBelow order) (ranges_of items) (length (ranges_of items))
  ranges_apart [] up k d more = absurd (omega arith)
  ranges_apart (x ∷ []) up k d more = absurd (omega arith)
  ranges_apart (x ∷ y ∷ rest) up zero d more =
      first_above y rest (IsAscending-tail order x (y ∷ rest) up) d (omega arith)
  ranges_apart (x ∷ y ∷ rest) up (suc k) d more =
      rw (suc-add_one k) (ranges_apart rest (IsAscending-tail order y rest (IsAscending-tail order x (y ∷ rest) up)) k d (omega arith))

  -- below the first item there is no member
  no_member_below : (y : K) (rest : List K) (z : K) → IsAscending order (y ∷ rest) → order y z ≡ Greater → member order rest z ≡ false
  no_member_below y rest z up g =
      member-above order rest z
      (λ k d less. Greater-from_less o z (get_or rest k d) (Less-from_le o z y (get_or rest k d) (le-from_greater o y z g) (IsAscending-head order y rest up k d less)))

  -- the ranges together have exactly the members
  pub members-ranges_of : (items : List K) (z : K) → IsAscending order items →
      (member order items z ≡ true) ↔ Any (λ r. IsInRange order r z) (ranges_of items)
  members-ranges_of [] z up = (λ m. absurd (true≢false (sym m ∙ member-nil order z)), λ h. absurd (Any-nil (λ r. IsInRange order r z) h))
  members-ranges_of (x ∷ []) z up = (
    λ m. Any-here (λ r. IsInRange order r z) _ [] (sym (alone) ∙ m),
    λ h. Any-cons_cases (λ r. IsInRange order r z) _ [] h (λ p. alone ∙ p) (λ none. absurd (Any-nil (λ r. IsInRange order r z) none)),
  )
    where
      alone : member order (x ∷ []) z ≡ is_le (order x z)
      alone = member-cons order x [] z ∙ ap (differ (is_le (order x z))) (member-nil order z) ∙ differ-false (is_le (order x z))
  members-ranges_of (x ∷ y ∷ rest) z up =
      is_le-cases (order y z)
      (λ t. (
        λ m. Any-there (λ r. IsInRange order r z) _ (ranges_of rest) ((members-ranges_of rest z up_rest).0 (sym (past t) ∙ m)),
        λ h.
            Any-cons_cases (λ r. IsInRange order r z) _ (ranges_of rest) h
            (λ p. absurd (apart t p.1))
            (λ later. past t ∙ (members-ranges_of rest z up_rest).1 later),
      ))
      (λ g. (
        λ m. Any-here (λ r. IsInRange order r z) _ (ranges_of rest) (sym (before g) ∙ m, Less-back g),
        λ h.
            Any-cons_cases (λ r. IsInRange order r z) _ (ranges_of rest) h
            (λ p. before g ∙ p.0)
            (λ later. absurd (true≢false (sym ((members-ranges_of rest z up_rest).1 later) ∙ no_member_below y rest z (IsAscending-tail order x (y ∷ rest) up) g))),
      ))
    where
      up_rest : IsAscending order rest
      up_rest = IsAscending-tail order y rest (IsAscending-tail order x (y ∷ rest) up)

      x_below : order x y ≡ Less
      x_below = up 0 1 x (omega arith) (omega arith)

      two : member order (x ∷ y ∷ rest) z ≡ differ (is_le (order x z)) (differ (is_le (order y z)) (member order rest z))
      two = member-cons order x (y ∷ rest) z ∙ ap (differ (is_le (order x z))) (member-cons order y rest z)

      past : is_le (order y z) ≡ true → member order (x ∷ y ∷ rest) z ≡ member order rest z
      past t =
          two ∙ ap₂ (λ a b. differ a (differ b (member order rest z))) (le-trans o x y z (ap is_le x_below) t) t ∙ twice (member order rest z)
        where
          twice : (b : Bool) → differ true (differ true b) ≡ b
          twice true = refl
          twice false = refl

      before : order y z ≡ Greater → member order (x ∷ y ∷ rest) z ≡ is_le (order x z)
      before g =
          two ∙ ap₂ (λ b m. differ (is_le (order x z)) (differ b m)) (ap is_le g) (no_member_below y rest z (IsAscending-tail order x (y ∷ rest) up) g)
          ∙ differ-false (is_le (order x z))

      Less-back : order y z ≡ Greater → order z y ≡ Less
      Less-back g = Less-from_greater o y z g

      apart : is_le (order y z) ≡ true → order z y ≡ Less → ⊥
      apart t l = true≢false (sym t ∙ ap is_le (Greater-from_less o z y l))

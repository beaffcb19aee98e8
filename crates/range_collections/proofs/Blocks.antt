-- Whether a list ascends, asked pair by pair and block by block.
use Rattle.std.proofs.Common.{◌≡◌, ◌↔◌, IsTrue, refl, ap, sym, ◌∙◌, subst, ℕ, ◌+◌, ◌-◌, ◌<◌, ◌≤◌, Bool, true, false, ◌&&◌, List, length, take, drop, get_or, ⊎_elim, arith}
use Rattle.std.specs.Cmp.{IsTotalOrder}
use Rattle.std.specs.List.{AllAdjacentBelow}
use Rattle.std.specs.Ordering.{is_lt}
use Rattle.std.proofs.lemmas.Bool.{cases_lt, false≢true}
use Rattle.std.proofs.lemmas.List.{get_or_read_under, get_or-take, get_or-drop, length-take-le, length-drop}
use Rattle.std.specs.declared.cmp.Ordering.{Ordering}
use Rattle.std.specs.declared.cmp.Ordering.TheVariants.{Less}
use Rattle.range_merge.specs.Boundaries.{IsAscending}
use Rattle.range_collections.proofs.Ascending.{Less-from_is_lt, IsAscending-from_adjacent}

module _ {K : Type 0} (order : K → K → Ordering) where
  -- one pair of neighbours more
  pub IsTrue-adjacent_more : (xs : List K) (i : ℕ) (x y : K) (ascends : Bool) → i + 1 < length xs → x ≡ get_or xs i x → y ≡ get_or xs (i + 1) y →
      IsTrue ascends ↔ AllAdjacentBelow (λ x y. order x y ≡ Less) xs (i + 1) →
      IsTrue (ascends && is_lt (order x y)) ↔ AllAdjacentBelow (λ x y. order x y ≡ Less) xs (i + 1 + 1)
  IsTrue-adjacent_more xs i x y true within read_x read_y so_far =
      let at_x : (d : K) → x ≡ get_or xs i d = λ d. get_or_read_under xs i (length xs) x d read_x (omega arith) refl in
      let at_y : (d : K) → y ≡ get_or xs (i + 1) d = λ d. get_or_read_under xs (i + 1) (length xs) y d read_y within refl in
      let pair : (d : K) → order x y ≡ order (get_or xs i d) (get_or xs (i + 1) d) =
      λ d. ap (λ p. order p y) (at_x d) ∙ ap (λ q. order (get_or xs i d) q) (at_y d) in (
        λ less k d more.
            ⊎_elim
            (λ old. so_far.0 refl k d old)
            (λ new.
            let last : i ≡ k = omega (arith, more, new) in
            subst (λ (j : ℕ). order (get_or xs j d) (get_or xs (j + 1) d) ≡ Less) last (sym (pair d) ∙ Less-from_is_lt (order x y) less))
            (cases_lt (k + 1) (i + 1)),
        λ all. ap is_lt (pair x ∙ all i x (omega arith)),
      )
  IsTrue-adjacent_more xs i x y false within read_x read_y so_far = (
    λ less. absurd (false≢true less),
    λ all. absurd (false≢true (so_far.1 (λ k d more. all k d (omega (arith, more))))),
  )

  -- all pairs of neighbours were asked
  pub IsTrue-ascends : (o : IsTotalOrder order) (xs : List K) (i : ℕ) (ascends : Bool) → i ≡ length xs - 1 →
      IsTrue ascends ↔ AllAdjacentBelow (λ x y. order x y ≡ Less) xs (i + 1) → IsTrue ascends ↔ IsAscending order xs
  IsTrue-ascends o xs i ascends all so_far = (
    λ t. IsAscending-from_adjacent order o xs (λ k d more. so_far.0 t k d (omega (arith, all, more))),
    λ up. so_far.1 (λ k d more. up k (k + 1) d (omega arith) (omega (arith, all, more))),
  )

  -- a list ascends where a front of it does, and what begins with the last item of that
  module _ (o : IsTotalOrder order) (xs : List K) (n : ℕ) (within : n < length xs) (front : IsAscending order (take (n + 1) xs)) (rest : IsAscending order (drop n xs)) where
    in_front : (i j : ℕ) (d : K) → i < j → j ≤ n → order (get_or xs i d) (get_or xs j d) ≡ Less
    in_front i j d below inside =
        subst (λ p. order p (get_or xs j d) ≡ Less) (get_or-take (n + 1) xs i d (omega arith))
        (subst (λ q. order (get_or (take (n + 1) xs) i d) q ≡ Less) (get_or-take (n + 1) xs j d (omega arith))
        (front i j d below (omega (arith, length-take-le (n + 1) xs (omega arith)))))

    in_rest : (i j : ℕ) (d : K) → n + i < n + j → n + j < length xs → order (get_or xs (n + i) d) (get_or xs (n + j) d) ≡ Less
    in_rest i j d below inside =
        subst (λ p. order p (get_or xs (n + j) d) ≡ Less) (get_or-drop n xs i d)
        (subst (λ q. order (get_or (drop n xs) i d) q ≡ Less) (get_or-drop n xs j d)
        (rest i j d (omega arith) (omega (arith, length-drop n xs))))

    from_n : (i j : ℕ) (d : K) → n ≤ i → i < j → j < length xs → order (get_or xs i d) (get_or xs j d) ≡ Less
    from_n i j d after below inside =
        let at_i : n + (i - n) ≡ i = omega arith in
        let at_j : n + (j - n) ≡ j = omega arith in
        subst (λ (k : ℕ). order (get_or xs k d) (get_or xs j d) ≡ Less) at_i
        (subst (λ (k : ℕ). order (get_or xs (n + (i - n)) d) (get_or xs k d) ≡ Less) at_j
        (in_rest (i - n) (j - n) d (omega arith) (omega arith)))

    pub IsAscending-joined : IsAscending order xs
    IsAscending-joined i j d below inside =
        ⊎_elim
        (λ before.
        ⊎_elim
        (λ short. in_front i j d below (omega (arith, short)))
        (λ long. o.trans (get_or xs i d) (get_or xs n d) (get_or xs j d) (in_front i n d before (omega arith)) (from_n n j d (omega arith) (omega (arith, long)) inside))
        (cases_lt j (n + 1)))
        (λ after. from_n i j d after below inside)
        (cases_lt i n)

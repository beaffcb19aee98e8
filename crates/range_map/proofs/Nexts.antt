-- The lowest of the keys of two lists that are unread.
use Rattle.std.proofs.Common.{◌≡◌, ℕ, ◌+◌, ◌<◌, ◌≤◌, inl, inr, List, length, get_or, sym, ap, ◌∙◌, subst, true, true≢false, arith}
use Rattle.std.proofs.lemmas.Bool.{cases_lt}
use Rattle.std.specs.List.{AllWithin}
use Rattle.std.specs.Cmp.{IsTotalOrder}
use Rattle.std.specs.Ordering.{is_le}
use Rattle.std.specs.declared.cmp.Ordering.{Ordering}
use Rattle.std.specs.declared.cmp.Ordering.TheVariants.{Less, Equal}
use Rattle.range_merge.specs.Boundaries.{IsAscending}
use Rattle.range_merge.proofs.Orders.{Equal-self, Equal-sym, Greater-from_less}
use Rattle.range_list.specs.Lists.{place_at, IsPlaceAt}
use Rattle.range_map.specs.Combining.{IsBelowFrom}
use Rattle.range_map.specs.Listed.{steps_in}
use Rattle.range_map.specs.Places.{Stands, IsNext}
use Rattle.range_map.specs.declared.step.Step.{Step}
use Rattle.range_map.specs.declared.in_place.Next.{Next}
use Rattle.range_map.proofs.MadeUpTo.{Stands-at, Stands-beside}
use Rattle.range_map.proofs.Windowed.{apart-behind}

module _ {K : Type 0} (order : K → K → Ordering) (o : IsTotalOrder order) where
  -- what is below a key of an ascending list, is below all from that on
  pub IsBelowFrom-key : (ys : List K) → IsAscending order ys → (j : ℕ) (k x : K) → j < length ys → ((d : K) → get_or ys j d ≡ k) → order x k ≡ Less → IsBelowFrom order ys j x
  IsBelowFrom-key ys up j k x within is below m g least most =
      elim (cases_lt j m) as (λ _. order x (get_or ys m g) ≡ Less) [
        | inl more ↦ o.trans x k (get_or ys m g) below (ap (λ y. order y (get_or ys m g)) (sym (is g)) ∙ up j m g more most)
        | inr less ↦ let same : m ≡ j = omega (arith, less, least) in rw same (ap (order x) (is g) ∙ below)
      ]

  pub below-from : (xs ys : List K) (n j : ℕ) (k : K) → IsAscending order ys → j < length ys → ((d : K) → get_or ys j d ≡ k) → AllWithin (λ x. order x k ≡ Less) xs 0 n → AllWithin (IsBelowFrom order ys j) xs 0 n
  below-from xs ys n j k up within is below i d low high = IsBelowFrom-key ys up j k (get_or xs i d) within is (below i d low high)

  -- one more key that is below
  pub AllWithin-more : (P : K → Type 0) (xs : List K) (n : ℕ) (k : K) → ((d : K) → get_or xs n d ≡ k) → P k → AllWithin P xs 0 n → AllWithin P xs 0 (n + 1)
  AllWithin-more P xs n k is holds all i d low high =
      elim (cases_lt i n) as (λ _. P (get_or xs i d)) [
        | inl less ↦ all i d low less
        | inr more ↦ let same : i ≡ n = omega (arith, more, high) in rw same (subst P (sym (is d)) holds)
      ]

  -- a place from which on no key is below, lies behind those that are
  pub place-behind : (xs : List K) (n m : ℕ) (k : K) → n ≤ length xs → AllWithin (λ x. order x k ≡ Less) xs 0 n → AllWithin (λ x. is_le (order k x) ≡ true) xs m (length xs) → n ≤ m
  place-behind xs n m k within below from =
      elim (cases_lt m n) as (λ _. n ≤ m) [
        | inl less ↦
            let le : is_le (order k (get_or xs m k)) ≡ true = from m k (omega arith) (omega (arith, less, within)) in
            absurd (true≢false (sym le ∙ ap is_le (Greater-from_less o (get_or xs m k) k (below m k (omega arith) less))))
        | inr more ↦ omega (arith, more)
      ]

  module _ {V : Type 0} (lists : List (List (Step K V))) (ks : List K) (up : IsAscending order (steps_in lists).keys) (ks_up : IsAscending order ks) (i j : ℕ) (n : Next K)
      (at_place : IsPlaceAt lists n.at) (below_place : IsPlaceAt lists n.below) (ordered : place_at lists n.at ≤ place_at lists n.below)
      (i_in : i ≤ length (steps_in lists).keys) (j_in : j ≤ length ks) where
    -- the left's
    pub IsNext-left : i < length (steps_in lists).keys → ((d : K) → get_or (steps_in lists).keys i d ≡ n.key.now) → place_at lists n.at ≡ i + 1 → n.index ≡ j →
        AllWithin (IsBelowFrom order ks j) (steps_in lists).keys 0 (place_at lists n.below) → AllWithin (IsBelowFrom order (steps_in lists).keys i) ks 0 j → IsNext order lists ks i j n
    IsNext-left more is at index left right = record {
      at_place = at_place;
      below_place = below_place;
      ordered = ordered;
      left = rw at (Stands-at order o (steps_in lists).keys up i n.key.now more (λ d. ap (λ k. order k n.key.now) (is d) ∙ Equal-self o n.key.now));
      right = rw index
          (Stands-beside order o ks j n.key.now n.key.now j_in (Equal-self o n.key.now)
          (λ m d low high. ap (order (get_or ks m d)) (sym (is n.key.now)) ∙ right m d low high i n.key.now (omega arith) more)
          (λ m d low high. ap (λ k. order k (get_or ks m d)) (sym (is n.key.now)) ∙ left i n.key.now (omega arith) (omega (arith, at, ordered)) m d low high));
      onward = omega (arith, at, index);
      left_below = rw index left;
    }

    -- one of each
    pub IsNext-both : i < length (steps_in lists).keys → ((d : K) → get_or (steps_in lists).keys i d ≡ n.key.now) → j < length ks → ((d : K) → order n.key.now (get_or ks j d) ≡ Equal) →
        place_at lists n.at ≡ i + 1 → place_at lists n.below ≡ i + 1 → n.index ≡ j + 1 → IsNext order lists ks i j n
    IsNext-both more is also equal at below index =
        let in_left : Stands order (steps_in lists).keys i (i + 1) n.key.now =
        Stands-at order o (steps_in lists).keys up i n.key.now more (λ d. ap (λ k. order k n.key.now) (is d) ∙ Equal-self o n.key.now) in
        let in_right : Stands order ks j (j + 1) n.key.now =
        Stands-at order o ks ks_up j n.key.now also (λ d. Equal-sym o n.key.now (get_or ks j d) (equal d)) in
        record {
          at_place = at_place;
          below_place = below_place;
          ordered = ordered;
          left = rw at in_left;
          right = rw index in_right;
          onward = omega (arith, at, index);
          left_below = rw (index, below) (apart-behind order o (steps_in lists).keys ks i (i + 1) j (j + 1) n.key.now in_left in_right);
        }

    -- the right's
    pub IsNext-right : j < length ks → ((d : K) → get_or ks j d ≡ n.key.now) → place_at lists n.at ≡ i → place_at lists n.below ≡ i → n.index ≡ j + 1 →
        AllWithin (IsBelowFrom order ks j) (steps_in lists).keys 0 i → IsBelowFrom order (steps_in lists).keys i n.key.now → IsNext order lists ks i j n
    IsNext-right also is at below index left after =
        let in_left : Stands order (steps_in lists).keys i i n.key.now =
        Stands-beside order o (steps_in lists).keys i n.key.now n.key.now i_in (Equal-self o n.key.now)
        (λ m d low high. ap (order (get_or (steps_in lists).keys m d)) (sym (is n.key.now)) ∙ left m d low high j n.key.now (omega arith) also) after in
        let in_right : Stands order ks j (j + 1) n.key.now =
        Stands-at order o ks ks_up j n.key.now also (λ d. ap (λ k. order k n.key.now) (is d) ∙ Equal-self o n.key.now) in
        record {
          at_place = at_place;
          below_place = below_place;
          ordered = ordered;
          left = rw at in_left;
          right = rw index in_right;
          onward = omega (arith, at, index);
          left_below = rw (index, below) (apart-behind order o (steps_in lists).keys ks i i j (j + 1) n.key.now in_left in_right);
        }

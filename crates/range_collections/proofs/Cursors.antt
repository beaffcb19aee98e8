-- How many boundaries are at or below an element, from those beside a place, and from the first run
-- of the boundaries and that element.
--     count-place                 the place after the last item that is at or below x
--     count-from                  if the items before a place are at or below x, the others are counted
--     count-onward                they are, if any item from the place on is
--     count-Left, -Right, -Both   the count, by the first run of the items and x
use Rattle.std.proofs.Common.{◌≡◌, refl, sym, ap, ◌∙◌, subst, ℕ, zero, suc, inl, inr, ◌<◌, ◌≤◌, ◌+◌, ◌-◌, true, false, Some, List, [], ◌∷◌, length, take, drop, get_or, slice_get, arith, Bool, get_or-take}
use Rattle.std.specs.List.{HoldsAt, AllWithin}
use Rattle.std.proofs.lemmas.Bool.{cases_lt, true≢false}
use Rattle.std.proofs.lemmas.List.{length-take-le, get_or_default}
use Rattle.std.specs.Cmp.{IsTotalOrder}
use Rattle.std.specs.declared.cmp.Ordering.{Ordering}
use Rattle.std.specs.declared.cmp.Ordering.TheVariants.{Less, Equal, Greater}
use Rattle.std.specs.Ordering.{is_le, is_eq, is_gt}
use Rattle.range_merge.specs.Boundaries.{IsAscending, count_up_to}
use Rattle.range_merge.specs.Galloping.{IsBracket}
use Rattle.range_merge.specs.Runs.{runs}
use Rattle.range_merge.specs.declared.runs.Run.{Run}
use Rattle.range_merge.specs.declared.runs.Run.TheVariants.{Left, Right, Both}
use Rattle.range_merge.proofs.Gallops.{IsBracket-one}
use Rattle.range_merge.proofs.Members.{by_Ordering}
use Rattle.range_merge.proofs.Orders.{Greater-from_less, Less-from_greater}
use Rattle.range_merge.proofs.RunsRead.{first_run-left, first_run-right, first_run-both}
use Rattle.range_collections.proofs.CountUpTo.{count_up_to-split, count_up_to-found}
use Rattle.range_collections.proofs.Cut.{All-take_within, All-drop_within, count_up_to-front}
use Rattle.range_collections.proofs.Shortest.{is_le-cases, count_up_to-all, count_up_to-none, Less-then_le}

one_less : (n : ℕ) → suc n - 1 ≡ n
one_less n = omega arith

module _ {K : Type 0} {order : K → K → Ordering} (o : IsTotalOrder order) (x : K) where
  module _ (items : List K) (up : IsAscending order items) where
    -- all items through one that is at or below x are
    up_to : (i : ℕ) → i < length items → HoldsAt (λ y. is_le (order y x) ≡ true) items i → AllWithin (λ y. is_le (order y x) ≡ true) items 0 (i + 1)
    up_to i within here k d low high =
        elim (cases_lt k i) as (λ _. is_le (order (get_or items k d) x) ≡ true) [
          | inl less ↦ ap is_le (Less-then_le o (get_or items k d) (get_or items i d) x (up k i d less within) (here d))
          | inr more ↦ let e : k ≡ i = omega arith in rw e (here d)
        ]

    -- all items from one that is above x on are
    above : (i : ℕ) → i < length items → HoldsAt (λ y. order y x ≡ Greater) items i → AllWithin (λ y. order y x ≡ Greater) items i (length items)
    above i within here k d low high =
        elim (cases_lt i k) as (λ _. order (get_or items k d) x ≡ Greater) [
          | inl less ↦ Greater-from_less o x (get_or items k d) (o.trans x (get_or items i d) (get_or items k d) (Less-from_greater o (get_or items i d) x (here d)) (up i k d less high))
          | inr more ↦ let e : k ≡ i = omega arith in rw e (here d)
        ]

    before : (i : ℕ) → i ≤ length items → (0 < i → HoldsAt (λ y. is_le (order y x) ≡ true) items (i - 1)) → AllWithin (λ y. is_le (order y x) ≡ true) items 0 i
    before zero within last k d low high = absurd (omega (arith, high))
    before (suc i) within last k d low high =
        up_to i (omega (arith, within)) (subst (λ j. HoldsAt (λ y. is_le (order y x) ≡ true) items j) (one_less i) (last (omega arith))) k d low (omega (arith, high))

    pub count-place : (i : ℕ) → i ≤ length items → (0 < i → HoldsAt (λ y. is_le (order y x) ≡ true) items (i - 1)) →
        (i < length items → HoldsAt (λ y. order y x ≡ Greater) items i) → count_up_to order items x ≡ i
    count-place i within last next =
        count_up_to-split order x items i within (before i within last)
        (λ k d low high. above i (omega (arith, low, high)) (next (omega (arith, low, high))) k d low high)

    pub count-from : (i : ℕ) → i ≤ length items → (0 < i → HoldsAt (λ y. is_le (order y x) ≡ true) items (i - 1)) →
        count_up_to order items x ≡ i + count_up_to order (drop i items) x
    count-from i within last =
        omega (
          arith,
          count_up_to-front order i items x,
          count_up_to-all order x (take i items) (All-take_within order (λ y. is_le (order y x) ≡ true) i items within (before i within last)),
          length-take-le i items within,
        )

    pub count-onward : (i : ℕ) → i ≤ length items → 0 < count_up_to order (drop i items) x → count_up_to order items x ≡ i + count_up_to order (drop i items) x
    count-onward zero within some = count-from zero within (λ none. absurd (omega (arith, none)))
    count-onward (suc i) within some =
        count-from (suc i) within
        (λ _. subst (λ j. HoldsAt (λ y. is_le (order y x) ≡ true) items j) (sym (one_less i))
        (λ d. is_le-cases (order (get_or items i d) x) (λ t. t) (λ g. absurd (omega (arith, some, none d g)))))
      where
        none : (d : K) → order (get_or items i d) x ≡ Greater → count_up_to order (drop (suc i) items) x ≡ 0
        none d g =
            count_up_to-none order x (drop (suc i) items)
            (All-drop_within order (λ y. order y x ≡ Greater) (suc i) items within
            (λ k e low high. above i (omega (arith, within)) (λ f. subst (λ y. order y x ≡ Greater) (get_or_default items i d f (omega (arith, within))) g) k e (omega (arith, low)) high))

  -- a list that begins with an item below x has a place where these end
  bracket : (y : K) (ys : List K) → order y x ≡ Less → (m : ℕ) × IsBracket order (y ∷ ys) x (suc m) (suc m)
  bracket y [] less = (0, IsBracket-one order (y ∷ []) x (omega arith) (λ d. less) (λ past. absurd (omega (arith, past))))
  bracket y (z ∷ zs) less =
      by_Ordering (order z x)
      (λ e.
      let rest = bracket z zs e in (
        suc rest.0,
        record {
          some = omega arith;
          ordered = omega arith;
          within = omega (arith, rest.1.within);
          last =
              subst (λ j. HoldsAt (λ y. order y x ≡ Less) (y ∷ z ∷ zs) j) (sym (one_less (suc rest.0)))
              (λ d. subst (λ j. HoldsAt (λ y. order y x ≡ Less) (z ∷ zs) j) (one_less rest.0) rest.1.last d);
          next = λ past d. rest.1.next (omega (arith, past)) d;
        },
      ))
      (λ e. (0, IsBracket-one order (y ∷ z ∷ zs) x (omega arith) (λ d. less) (λ _ d l. absurd (Less≢Equal (sym l ∙ e)))))
      (λ e. (0, IsBracket-one order (y ∷ z ∷ zs) x (omega arith) (λ d. less) (λ _ d l. absurd (Less≢Greater (sym l ∙ e)))))
    where
      Less≢Equal : Less ≡ Equal → ⊥
      Less≢Equal e = cc

      Less≢Greater : Less ≡ Greater → ⊥
      Less≢Greater e = cc

  -- the run ends where the items below x do; or else it says how the first item stands to x
  abbrev pub IsRunTo : List K → Run → Type 0
  IsRunTo items (Left n) = IsBracket order items x n n
  IsRunTo items (Right n) = HoldsAt (λ y. order y x ≡ Greater) items 0 × (n ≡ 1)
  IsRunTo items Both = HoldsAt (λ y. order y x ≡ Equal) items 0

  pub IsRunTo-first : (items : List K) → 0 < length items → IsAscending order items → (run : Run) → slice_get (runs order items (x ∷ [])) 0 ≡ Some run → IsRunTo items run
  IsRunTo-first [] some up run e = absurd (omega (arith, some))
  IsRunTo-first (y ∷ ys) some up run e =
      by_Ordering (order y x)
      (λ less. let ends = bracket y ys less in
      this (Left (suc ends.0)) (first_run-left o (y ∷ ys) (x ∷ []) up alone (suc ends.0) x refl ends.1) ends.1)
      (λ equal. this Both (first_run-both o (y ∷ ys) (x ∷ []) up alone y x refl refl equal) (λ d. equal))
      (λ more. this (Right 1)
      (first_run-right o (y ∷ ys) (x ∷ []) up alone 1 y refl (IsBracket-one order (x ∷ []) y (omega arith) (λ d. Less-from_greater o y x more) (λ past. absurd (omega (arith, past)))))
      (λ d. more, refl))
    where
      alone : IsAscending order (x ∷ [])
      alone i j d less within = absurd (omega (arith, less, within))

      same : (r s : Run) → Some r ≡ Some s → r ≡ s
      same r s f = cc

      this : (r : Run) → slice_get (runs order (y ∷ ys) (x ∷ [])) 0 ≡ Some r → IsRunTo (y ∷ ys) r → IsRunTo (y ∷ ys) run
      this r f h = subst (λ s. IsRunTo (y ∷ ys) s) (same r run (sym f ∙ e)) h

  module _ (items : List K) (some : 0 < length items) (up : IsAscending order items) where
    pub IsBracket-Left : (n : ℕ) → slice_get (runs order items (x ∷ [])) 0 ≡ Some (Left n) → IsBracket order items x n n
    IsBracket-Left n e = IsRunTo-first items some up (Left n) e

    pub count-Left : (n : ℕ) → slice_get (runs order items (x ∷ [])) 0 ≡ Some (Left n) →
        (n < length items → HoldsAt (λ y. order y x ≡ Equal → ⊥) items n) → count_up_to order items x ≡ n
    count-Left n e other =
        let ends = IsBracket-Left n e in
        count-place items up n ends.within (λ _ d. ap is_le (ends.last d))
        (λ past d. by_Ordering (order (get_or items n d) x) (λ e. absurd (ends.next past d e)) (λ e. absurd (other past d e)) (λ e. e))

    pub count-Right : (n : ℕ) → slice_get (runs order items (x ∷ [])) 0 ≡ Some (Right n) → (count_up_to order items x ≡ 0) × (n ≡ 1)
    count-Right n e =
        let first = IsRunTo-first items some up (Right n) e in
        (count-place items up 0 (omega arith) (λ none. absurd (omega (arith, none))) (λ _. first.0), first.1)

    pub count-Both : slice_get (runs order items (x ∷ [])) 0 ≡ Some Both → count_up_to order items x ≡ 1
    count-Both e = count_up_to-found order o x items 0 up some (IsRunTo-first items some up Both e)

  -- no fewer items than are at or below x stand before one that is above it
  pub less-than_above : (items : List K) (i n : ℕ) (d : K) → 0 < i → AllWithin (λ y. is_le (order y x) ≡ true) items 0 n →
      HoldsAt (λ y. order y x ≡ Greater) items (i - 1) → n < i
  less-than_above items i n d some before more =
      elim (cases_lt n i) as (λ _. n < i) [
        | inl less ↦ less
        | inr far ↦ absurd (true≢false (sym (before (i - 1) d (omega arith) (omega (arith, some, far))) ∙ ap is_le (more d)))
      ]

-- what was read at a place of the front holds at that place
pub HoldsAt-front : {K : Type 0} (P : K → Type 0) (items front : List K) (i : ℕ) (y : K) → 0 < i → front ≡ take i items → length front ≡ i →
    HoldsAt (λ z. y ≡ z) front (length front - 1) → P y → HoldsAt P items (i - 1)
HoldsAt-front P items front i y some is len read p d =
    subst P
    (read d ∙ ap (λ n. get_or front (n - 1) d) len ∙ ap (λ xs. get_or xs (i - 1) d) is ∙ get_or-take i items (i - 1) d (omega (arith, some)))
    p

pub not_equal-from_test : (b : Bool) (o p : Ordering) → o ≡ p → b ≡ is_eq o → b ≡ false → p ≡ Equal → ⊥
not_equal-from_test b Less p e t h l = cc
not_equal-from_test b Equal p e t h l = cc
not_equal-from_test b Greater p e t h l = cc

pub is_le-from_test : (b : Bool) (o p : Ordering) → o ≡ p → b ≡ is_gt o → b ≡ false → is_le p ≡ true
is_le-from_test b Less p e t h = ap is_le (sym e)
is_le-from_test b Equal p e t h = ap is_le (sym e)
is_le-from_test b Greater p e t h = cc

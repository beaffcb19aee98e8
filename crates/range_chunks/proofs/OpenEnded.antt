-- A range without an end, set in a list of boundaries before or behind others.
use Rattle.std.proofs.Common.{suc, ◌≡◌, ◌≢◌, refl, sym, ap, ◌∙◌, subst, ℕ, inl, inr, ◌<◌, ◌≤◌, ◌+◌, ◌-◌, Option, Some, None, Bool, true, false, not, List, [], ◌∷◌, ◌++◌, length, get_or, arith, All, true≢false, length-append}
use Rattle.std.specs.List.{AllWithin, slice_get}
use Rattle.std.specs.Option.{option_to_list}
use Rattle.std.specs.Cmp.{IsTotalOrder}
use Rattle.std.specs.Ordering.{is_le}
use Rattle.std.specs.declared.cmp.Ordering.{Ordering}
use Rattle.std.specs.declared.cmp.Ordering.TheVariants.{Less, Equal}
use Rattle.std.proofs.lemmas.Bool.{cases_lt}
use Rattle.std.proofs.lemmas.List.{get_or_at, get_or_append_left}
use Rattle.std.proofs.lemmas.Option.{none-some, same_Some}
use Rattle.std.proofs.lemmas.List.Elements.{All-nil, All-cons, All-head, All-contains, Contains-get_or}
use Rattle.range_merge.specs.Boundaries.{IsAscending, count_up_to, is_odd, member}
use Rattle.range_merge.specs.Connective.{Means, differ}
use Rattle.range_merge.proofs.Parity.{differ-comm, differ-false, differ-not_left, is_odd-add, is_odd-suc}
use Rattle.range_collections.specs.Splicing.{IsCut, range_table}
use Rattle.range_collections.proofs.CountUpTo.{count_up_to-split}
use Rattle.range_collections.proofs.Insertion.{IsAscending-append}
use Rattle.range_collections.proofs.Shortest.{count_up_to-all, count_up_to-append, le-trans, Less-then_le}
use Rattle.range_collections.proofs.Values.{IsAscending-one, member-one, not-not}
use Rattle.range_chunks.specs.Several.{AreKeptAbove, IsSettledFrom}
use Rattle.range_collections.proofs.Settled.{other_than_itself, Equal-both}

module _ {K : Type 0} {order : K → K → Ordering} (o : IsTotalOrder order) where
  module _ (inside : Bool) where
    -- ---- a range without an end
    module _ (a : List K) (start : K) (n : ℕ) (ps : Option K) (p : IsCut order inside a start n ps) where
      put_is_new : (x : K) → ps ≡ Some x → All (λ y. order y start ≢ Equal) a
      put_is_new x is =
          let put : All (λ z. (z ≡ start) × All (λ y. order y start ≢ Equal) a) (x ∷ []) = subst (λ (z : Option K). All (λ z. (z ≡ start) × All (λ y. order y start ≢ Equal) a) (option_to_list z)) is p.is_put in
          (All-head (λ z. (z ≡ start) × All (λ y. order y start ≢ Equal) a) x [] put).1

      not_at_end : n ≡ length a → (x : K) → ps ≡ Some x → IsSettledFrom order inside a start → ⊥
      not_at_end end x ps_is (inl (y, (k, within, is), high)) =
          let low : is_le (order y start) ≡ true = subst (λ v. is_le (order v start) ≡ true) is (p.before k y (omega arith) (omega (arith, within, end))) in
          All-contains (λ y. order y start ≢ Equal) a y (put_is_new x ps_is) (k, within, is) (Equal-both o y start low high)
      not_at_end end x ps_is (inr is_member) =
          let counted : count_up_to order a start ≡ n = count_up_to-split order start a n p.within p.before (λ k d low high. absurd (omega (arith, low, high, end))) in
          let one : n + length (option_to_list ps) ≡ suc n = omega (arith, ap (λ (z : Option K). length (option_to_list z)) ps_is) in
          other_than_itself (is_odd n) (sym (is_odd-suc n) ∙ sym (ap is_odd one) ∙ p.parity ∙ sym is_member ∙ ap is_odd counted)

      pub no_longer_from : IsSettledFrom order inside a start → n + length (option_to_list ps) ≤ length a
      no_longer_from settled = by_put ps refl
        where
          by_put : (x : Option K) → ps ≡ x → n + length (option_to_list ps) ≤ length a
          by_put None is = omega (arith, p.within, ap (λ (z : Option K). length (option_to_list z)) is)
          by_put (Some x) is =
              elim (cases_lt n (length a)) as (λ _. n + length (option_to_list ps) ≤ length a) [
                | inl less ↦ omega (arith, less, ap (λ (z : Option K). length (option_to_list z)) is)
                | inr more ↦
                    let end : n ≡ length a = omega (arith, more, p.within) in
                    absurd (not_at_end end x is settled)
              ]

    module _ (a : List K) (start : K) where
      pub pushed : IsAscending order a → All (λ y. order y start ≡ Less) a → is_odd (length a) ≡ not inside → Means order (range_table inside) (a ++ start ∷ []) a (start ∷ [])
      pushed up low even = record {
        sorted =
            IsAscending-append o a (start ∷ []) up (IsAscending-one o start)
            (λ k d within. All-cons (λ y. order (get_or a k d) y ≡ Less) start [] (low k d within) (All-nil (λ y. order (get_or a k d) y ≡ Less)));
        members = λ x.
            ap is_odd (count_up_to-append order a (start ∷ []) x)
            ∙ is_odd-add (count_up_to order a x) (count_up_to order (start ∷ []) x)
            ∙ ap (differ (member order a x)) (member-one o start x)
            ∙ by_le x (is_le (order start x)) refl
            ∙ ap (range_table inside (member order a x)) (sym (member-one o start x));
      }
        where
          by_le : (x : K) (b : Bool) → is_le (order start x) ≡ b → differ (member order a x) (is_le (order start x)) ≡ range_table inside (member order a x) (is_le (order start x))
          by_le x true h =
              let all : count_up_to order a x ≡ length a = count_up_to-all order x a (λ k d within. le-trans o (get_or a k d) start x (ap is_le (low k d within)) h) in
              ap (differ (member order a x)) h
              ∙ ap (λ m. differ m true) (ap is_odd all ∙ even)
              ∙ differ-not_left inside true
              ∙ ap not (differ-comm inside true)
              ∙ not-not inside
              ∙ sym (ap (range_table inside (member order a x)) h)
          by_le x false h = ap (differ (member order a x)) h ∙ differ-false (member order a x) ∙ sym (ap (range_table inside (member order a x)) h)

      pub settled_far : (n : ℕ) → n < length a → AllWithin (λ y. is_le (order start y) ≡ true) a n (length a) → IsSettledFrom order inside a start
      settled_far n more from = inl (get_or a n start, Contains-get_or a n start more, from n start (omega arith) more)

      pub settled_near : (n : ℕ) → n ≡ length a → AllWithin (λ y. order y start ≡ Less) a 0 n → is_odd n ≡ inside → IsSettledFrom order inside a start
      settled_near n end before odd =
          inr (ap is_odd (count_up_to-split order start a n (omega (arith, end)) (λ k d low high. ap is_le (before k d low high)) (λ k d low high. absurd (omega (arith, low, high, end)))) ∙ odd)

    -- ranges with an end, and one without behind them
    module _ (ranges : List K) (start : K) (even : is_odd (length ranges) ≡ false) (below : All (λ y. order y start ≡ Less) ranges) (a mid new : List K) where
      none_from_start : (x : K) → is_le (order start x) ≡ true → member order ranges x ≡ false
      none_from_start x h =
          ap is_odd (count_up_to-all order x ranges (λ k d within. le-trans o (get_or ranges k d) start x (ap is_le (below k d within)) h)) ∙ even

      member-with_open : (x : K) → member order (ranges ++ start ∷ []) x ≡ differ (member order ranges x) (member order (start ∷ []) x)
      member-with_open x = ap is_odd (count_up_to-append order ranges (start ∷ []) x) ∙ is_odd-add (count_up_to order ranges x) (count_up_to order (start ∷ []) x)

      not_in_both : (x : K) → member order (start ∷ []) x ≡ true → member order ranges x ≡ false
      not_in_both x h = none_from_start x (sym (member-one o start x) ∙ h)

      first_then : (was f p : Bool) → (p ≡ true → f ≡ false) → range_table inside (range_table inside was f) p ≡ range_table inside was (differ f p)
      first_then was true true h = absurd (true≢false (h refl))
      first_then was true false h = refl
      first_then was false true h = refl
      first_then was false false h = refl

      last_then : (was f p : Bool) → (p ≡ true → f ≡ false) → range_table inside (range_table inside was p) f ≡ range_table inside was (differ f p)
      last_then was true true h = absurd (true≢false (h refl))
      last_then was true false h = refl
      last_then was false true h = refl
      last_then was false false h = refl

      pub Means-then_open : Means order (range_table inside) mid a ranges → Means order (range_table inside) new mid (start ∷ []) → Means order (range_table inside) new a (ranges ++ start ∷ [])
      Means-then_open first last = record {
        sorted = last.sorted;
        members = λ x.
            last.members x
            ∙ ap (λ m. range_table inside m (member order (start ∷ []) x)) (first.members x)
            ∙ first_then (member order a x) (member order ranges x) (member order (start ∷ []) x) (not_in_both x)
            ∙ ap (range_table inside (member order a x)) (sym (member-with_open x));
      }

      pub Means-behind_open : Means order (range_table inside) mid a (start ∷ []) → Means order (range_table inside) new mid ranges → Means order (range_table inside) new a (ranges ++ start ∷ [])
      Means-behind_open first last = record {
        sorted = last.sorted;
        members = λ x.
            last.members x
            ∙ ap (λ m. range_table inside m (member order ranges x)) (first.members x)
            ∙ last_then (member order a x) (member order ranges x) (member order (start ∷ []) x) (not_in_both x)
            ∙ ap (range_table inside (member order a x)) (sym (member-with_open x));
      }

      pub settled_from_still : Means order (range_table inside) mid a ranges → AreKeptAbove order ranges a mid → IsSettledFrom order inside a start → IsSettledFrom order inside mid start
      settled_from_still first kept (inl (y, has, high)) =
          inl (y, kept y has (λ k d within. Less-then_le o (get_or ranges k d) start y (below k d within) high), high)
      settled_from_still first kept (inr m) = inr (first.members start ∙ stays (member order ranges start) (member order a start) m)
        where
          stays : (b : Bool) (m : Bool) → m ≡ inside → range_table inside m b ≡ inside
          stays true m is = refl
          stays false m is = is

  -- the items before one in an ascending list are below it
  pub below_open : (that front back : List K) (start : K) → IsAscending order that → that ≡ front ++ back → Some start ≡ slice_get back 0 → All (λ y. order y start ≡ Less) front
  below_open that front [] start up parts first k d within = absurd (none-some start (sym first))
  below_open that front (x ∷ back) start up parts first k d within =
      let all : IsAscending order (front ++ x ∷ back) = subst (λ (l : List K). IsAscending order l) parts up in
      let less = all k (length front) d within (omega (arith, length-append front (x ∷ back))) in
      let here : get_or (front ++ x ∷ back) (length front) d ≡ start = get_or_at front x back d (length front) refl ∙ sym (same_Some start x first) in
      subst (λ z. order z start ≡ Less) (get_or_append_left front (x ∷ back) d k within)
      (subst (λ z. order (get_or (front ++ x ∷ back) k d) z ≡ Less) here less)

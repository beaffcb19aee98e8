-- Members one by one: what is left below the highest.
use Rattle.std.proofs.Common.{◌≡◌, refl, sym, ap, ap₂, ◌∙◌, subst, ℕ, suc, inl, inr, ◌<◌, ◌≤◌, ◌+◌, ◌-◌, ◌%◌, true, false, List, [], ◌∷◌, ◌++◌, length, get_or, arith, length-append}
use Rattle.std.proofs.lemmas.List.{append-nil, get_or-append-add, get_or_append_left}
use Rattle.std.specs.Cmp.{IsTotalOrder}
use Rattle.std.specs.Ordering.{is_le, nat_cmp}
use Rattle.std.specs.declared.cmp.Ordering.{Ordering}
use Rattle.std.specs.declared.cmp.Ordering.TheVariants.{Less}
use Rattle.std.proofs.lemmas.Bool.{cases_lt}
use Rattle.range_merge.specs.Boundaries.{IsAscending, count_up_to, member, is_odd}
use Rattle.range_merge.proofs.Members.{count_up_to-nil}
use Rattle.range_merge.proofs.Orders.{Less-from_greater}
use Rattle.range_collections.specs.Members.{members_of, AreEnds}
use Rattle.range_collections.proofs.CountUpTo.{count_up_to-cons_in}
use Rattle.range_collections.proofs.Counted.{le-value, Greater-value, place-less}
use Rattle.range_collections.proofs.Ends.{not_odd, count-above_head, front_ascends, back_ascends, front_below, front_counts, up_to_place, first_member}
use Rattle.range_collections.proofs.MembersOf.{members_of-zero, members_of-in, members_of-none, members_of-same, members_of-append}
use Rattle.range_collections.proofs.Points.{is_odd-at_one, is_odd-at_zero}
use Rattle.range_collections.proofs.Previous.{count-below}
use Rattle.range_collections.proofs.Shortest.{is_le-cases, count_up_to-append, count_up_to-le_length, count_up_to-mono}

module _ {K : Type 0} {order : K → K → Ordering} (o : IsTotalOrder order) (is_value : K → Type 0) (value : ℕ → K) (place : K → ℕ) (count : ℕ)
    (value_is_value : (n : ℕ) → n < count → is_value (value n))
    (place_of_value : (n : ℕ) → n < count → place (value n) ≡ n)
    (place_fits : (x : K) → is_value x → place x < count)
    (in_order : (x y : K) → is_value x → is_value y → order x y ≡ nat_cmp (place x) (place y)) where
  module _ (items : List K) (first last : ℕ) (it : AreEnds order value count items first last) where
    -- the highest member, and those below it
    others_below : (list : List K) (n : ℕ) → first ≤ n → n < last → first < last →
        ((i : ℕ) → n < i → i < last → member order items (value i) ≡ false) →
        ((i : ℕ) → i ≤ n → member order items (value i) ≡ member order list (value i)) →
        members_of order value items first (suc last - first) ≡ members_of order value list first (suc n - first) ++ value last ∷ []
    others_below list n within past more off same =
        let count_one : suc last - first ≡ (last - first) + 1 = omega (arith, more) in
        let split : last - first ≡ (suc n - first) + (last - suc n) = omega (arith, within, past) in
        ap (members_of order value items first) count_one
        ∙ members_of-append order value items first (last - first) 1 last (omega (arith, more))
        ∙ ap₂ ◌++◌
        (ap (members_of order value items first) split
        ∙ members_of-append order value items first (suc n - first) (last - suc n) (suc n) (omega (arith, within))
        ∙ ap (λ l. members_of order value items first (suc n - first) ++ l) (members_of-none order value items (suc n) (last - suc n) (λ i a b. off i (omega (arith, a)) (omega (arith, b, past))))
        ∙ append-nil (members_of order value items first (suc n - first))
        ∙ members_of-same order value items list first (suc n - first) (λ i a b. same i (omega (arith, b, within))))
        (members_of-in order value items last 0 it.is_member ∙ ap (λ l. value last ∷ l) (members_of-zero order value items (last + 1)))

    pub one_right : last ≤ first → members_of order value items first (suc last - first) ≡ value last ∷ []
    one_right same =
        let one : suc last - first ≡ 1 = omega (arith, same, it.ordered) in
        let is : first ≡ last = omega (arith, same, it.ordered) in
        ap (members_of order value items first) one
        ∙ members_of-in order value items first 0 (first_member o is_value value place count value_is_value place_of_value place_fits in_order items first last it)
        ∙ ap₂ ◌∷◌ (ap value is) (members_of-zero order value items (first + 1))

    module _ (more : first < last) (before : List K) (start : K) (after : List K) (split : items ≡ before ++ start ∷ after) (pairs : length before % 2 ≡ 0)
        (few : length after ≤ 1) (v : is_value start) where
      up : IsAscending order (before ++ start ∷ after)
      up = subst (IsAscending order) split it.sorted

      whole : length items ≡ length before + suc (length after)
      whole = ap length split ∙ length-append before (start ∷ after)

      counted : (n : ℕ) → count_up_to order items (value n) ≡ count_up_to order before (value n) + count_up_to order (start ∷ after) (value n)
      counted n = ap (λ l. count_up_to order l (value n)) split ∙ count_up_to-append order before (start ∷ after) (value n)

      start_up_to : is_le (order start (value last)) ≡ true
      start_up_to =
          is_le-cases (order start (value last)) (λ t. t) (λ high.
          let is : count_up_to order items (value last) ≡ count_up_to order before (value last) =
          ap (λ l. count_up_to order l (value last)) split ∙ front_counts o before start after up (value last) high in
          let all : count_up_to order items (value last) ≡ length before = omega (arith, is, whole, it.in_last, count_up_to-le_length order (value last) before) in
          absurd (not_odd (count_up_to order items (value last)) it.is_member (omega (arith, all, pairs))))

      none_after : count_up_to order after (value last) ≡ 0
      none_after =
          let is : count_up_to order items (value last) ≡ length before + suc (count_up_to order after (value last)) =
          counted last ∙ ap₂ ◌+◌ (front_below o before start after up (value last) start_up_to) (count_up_to-cons_in order start after (value last) start_up_to) in
          elim (cases_lt 0 (count_up_to order after (value last))) as (λ _. count_up_to order after (value last) ≡ 0) [
            | inl some ↦
                absurd (not_odd (count_up_to order items (value last)) it.is_member (omega (arith, is, pairs, some, few, count_up_to-le_length order (value last) after)))
            | inr none ↦ omega (arith, none)
          ]

      -- the value below the highest member is in the last range too
      module _ (other : place start ≡ last → ⊥) where
        below_last : place start < last
        below_last =
            elim (cases_lt (place start) last) as (λ _. place start < last) [
              | inl fine ↦ fine
              | inr past ↦
                  absurd (other (omega (arith, past, up_to_place o is_value value place count value_is_value place_of_value place_fits in_order start last v it.fits start_up_to)))
            ]

        from_start : (n : ℕ) → n ≡ last - 1 → is_le (order start (value n)) ≡ true
        from_start n at =
            le-value o is_value value place count value_is_value place_of_value place_fits in_order start n v (omega (arith, at, it.fits)) (omega (arith, at, below_last))

        lower_count : (n : ℕ) → n ≡ last - 1 → count_up_to order items (value n) ≡ length before + 1
        lower_count n at =
            let none : count_up_to order after (value n) ≡ 0 =
            omega (arith, none_after, fewer n at) in
            counted n
            ∙ ap₂ ◌+◌ (front_below o before start after up (value n) (from_start n at)) (count_up_to-cons_in order start after (value n) (from_start n at) ∙ ap suc none)
          where
            fewer : (n : ℕ) → n ≡ last - 1 → count_up_to order after (value n) ≤ count_up_to order after (value last)
            fewer n at =
                count_up_to-mono o (value n) (value last)
                (Less-from_greater o (value last) (value n)
                (Greater-value o is_value value place count value_is_value place_of_value place_fits in_order (value last) n (value_is_value last it.fits) (omega (arith, at, it.fits))
                (omega (arith, at, more, place_of_value last it.fits))))
                after

        pub AreEnds-lower : (n : ℕ) → n ≡ last - 1 → AreEnds order value count items first n
        AreEnds-lower n at = record {
          sorted = it.sorted;
          ordered = omega (arith, at, more);
          fits = omega (arith, at, it.fits);
          in_first = it.in_first;
          is_member = ap is_odd (lower_count n at) ∙ is_odd-at_one (length before + 1) (omega (arith, pairs));
          in_last = omega (arith, whole, few, lower_count n at);
        }

        pub others-lower : (n : ℕ) → n ≡ last - 1 → members_of order value items first (suc last - first) ≡ members_of order value items first (suc n - first) ++ value last ∷ []
        others-lower n at =
            others_below items n (omega (arith, at, more)) (omega (arith, at, more)) more (λ i a b. absurd (omega (arith, at, a, b))) (λ i a. refl)

      -- the last range starts at the highest member
      module _ (here : place start ≡ last) where
        front_members : (n : ℕ) → n < last → count_up_to order items (value n) ≡ count_up_to order before (value n)
        front_members n less =
            ap (λ l. count_up_to order l (value n)) split
            ∙ front_counts o before start after up (value n)
            (Greater-value o is_value value place count value_is_value place_of_value place_fits in_order start n v (omega (arith, less, it.fits)) (omega (arith, here, less)))

        pub some_before : length before ≡ 0 → ⊥
        some_before none =
            omega (arith, none, it.in_first, front_members first more, count_up_to-le_length order (value first) before)

        module _ (front : List K) (end : K) (parts : before ≡ front ++ end ∷ []) (w : is_value end)
            (known : (d : K) → 0 < length front → is_value (get_or front (length front - 1) d)) where
          up_before : IsAscending order (front ++ end ∷ [])
          up_before = subst (IsAscending order) parts (front_ascends o before start after up)

          length_before : length before ≡ length front + 1
          length_before = ap length parts ∙ length-append front (end ∷ [])

          -- from the end on all boundaries before the last range count
          from_end : (n : ℕ) → n < count → place end ≤ n → count_up_to order before (value n) ≡ length before
          from_end n less far =
              let low = le-value o is_value value place count value_is_value place_of_value place_fits in_order end n w less far in
              ap (λ l. count_up_to order l (value n)) parts
              ∙ count_up_to-append order front (end ∷ []) (value n)
              ∙ ap₂ ◌+◌ (front_below o front end [] up_before (value n) low) (count_up_to-cons_in order end [] (value n) low ∙ ap suc (count_up_to-nil order (value n)))
              ∙ sym length_before

          pub above_first : first < place end
          above_first =
              elim (cases_lt first (place end)) as (λ _. first < place end) [
                | inl fine ↦ fine
                | inr past ↦
                    absurd (omega (arith, it.in_first, front_members first more, from_end first (omega (arith, more, it.fits)) past, pairs))
              ]

          end_up_to : place end ≤ last
          end_up_to =
              elim (cases_lt last (place end)) as (λ _. place end ≤ last) [
                | inl past ↦
                    let high = Greater-value o is_value value place count value_is_value place_of_value place_fits in_order end last w it.fits past in
                    absurd (omega (
                      arith,
                      length_before,
                      front_below o before start after up (value last) start_up_to,
                      ap (λ l. count_up_to order l (value last)) parts,
                      count_up_to-append order front (end ∷ []) (value last),
                      count-above_head o end [] (back_ascends o front end [] up_before) (value last) high,
                      count_up_to-le_length order (value last) front,
                    ))
                | inr fine ↦ fine
              ]

          below_end : (n : ℕ) → n ≡ place end - 1 → count_up_to order before (value n) + 1 ≡ length before
          below_end n at =
              ap (λ l. count_up_to order l (value n) + 1) parts
              ∙ count-below o is_value value place count value_is_value place_of_value place_fits in_order front end up_before w n (omega (arith, at, above_first)) known
              ∙ sym (ap length parts)

          pub AreEnds-before : (n : ℕ) → n ≡ place end - 1 → AreEnds order value count before first n
          AreEnds-before n at = record {
            sorted = front_ascends o before start after up;
            ordered = omega (arith, at, above_first);
            fits = omega (arith, at, above_first, place_fits end w);
            in_first = sym (front_members first more) ∙ it.in_first;
            is_member = is_odd-at_one (count_up_to order before (value n)) (omega (arith, below_end n at, pairs));
            in_last = omega (arith, below_end n at);
          }

          pub others-before : (n : ℕ) → n ≡ place end - 1 → members_of order value items first (suc last - first) ≡ members_of order value before first (suc n - first) ++ value last ∷ []
          others-before n at =
              others_below before n (omega (arith, at, above_first)) (omega (arith, at, above_first, end_up_to)) more
              (λ i a b. ap is_odd (front_members i b ∙ from_end i (omega (arith, b, it.fits)) (omega (arith, at, a, above_first))) ∙ is_odd-at_zero (length before) pairs)
              (λ i a. ap is_odd (front_members i (omega (arith, at, a, above_first, end_up_to))))

  -- the highest member of all, by the last boundary
  module _ (before : List K) (end : K) (up : IsAscending order (before ++ end ∷ [])) (w : is_value end)
      (known : (d : K) → 0 < length before → is_value (get_or before (length before - 1) d)) where
    length_all : length (before ++ end ∷ []) ≡ length before + 1
    length_all = length-append before (end ∷ [])

    count_from_end : (n : ℕ) → n < count → place end ≤ n → count_up_to order (before ++ end ∷ []) (value n) ≡ length before + 1
    count_from_end n less far =
        let low = le-value o is_value value place count value_is_value place_of_value place_fits in_order end n w less far in
        count_up_to-append order before (end ∷ []) (value n)
        ∙ ap₂ ◌+◌ (front_below o before end [] up (value n) low) (count_up_to-cons_in order end [] (value n) low ∙ ap suc (count_up_to-nil order (value n)))

    -- a last range with an end
    module _ (odd : length before % 2 ≡ 0 → ⊥) where
      some : 0 < length before
      some =
          elim (cases_lt 0 (length before)) as (λ _. 0 < length before) [
            | inl fine ↦ fine
            | inr none ↦ absurd (odd (omega (arith, none)))
          ]

      pub past_first : 0 < place end
      past_first =
          let last : K = get_or before (length before - 1) end in
          let final : length before ≡ length before + 0 = omega arith in
          let less : order last end ≡ Less =
          subst (λ y. order last y ≡ Less) (ap (λ n. get_or (before ++ end ∷ []) n end) final ∙ get_or-append-add before (end ∷ []) 0 end)
          (subst (λ y. order y (get_or (before ++ end ∷ []) (length before) end) ≡ Less) (get_or_append_left before (end ∷ []) end (length before - 1) (omega (arith, some)))
          (up (length before - 1) (length before) end (omega (arith, some)) (omega (arith, length_all)))) in
          omega (arith, place-less o is_value value place count value_is_value place_of_value place_fits in_order last end (known end some) w less)

      below_end_counts : (n : ℕ) → n + 1 ≡ place end → count_up_to order (before ++ end ∷ []) (value n) + 1 ≡ length (before ++ end ∷ [])
      below_end_counts n at =
          count-below o is_value value place count value_is_value place_of_value place_fits in_order before end up w n (omega (arith, at)) known

      pub fits-below_end : (n : ℕ) → n + 1 ≡ place end → n < count
      fits-below_end n at = omega (arith, at, place_fits end w)

      pub member-below_end : (n : ℕ) → n + 1 ≡ place end → member order (before ++ end ∷ []) (value n) ≡ true
      member-below_end n at =
          is_odd-at_one (count_up_to order (before ++ end ∷ []) (value n)) (omega (arith, below_end_counts n at, length_all, other_parity (length before) odd))
        where
          other_parity : (n : ℕ) → (n % 2 ≡ 0 → ⊥) → n % 2 ≡ 1
          other_parity n other =
              elim (cases_lt 0 (n % 2)) as (λ _. n % 2 ≡ 1) [
                | inl one ↦ omega (arith, one)
                | inr none ↦ absurd (other (omega (arith, none)))
              ]

      pub count-below_end : (n : ℕ) → n + 1 ≡ place end → length before ≤ count_up_to order (before ++ end ∷ []) (value n)
      count-below_end n at = omega (arith, below_end_counts n at, length_all)

      pub none-from_end : (n i : ℕ) → n + 1 ≡ place end → n < i → i < count → member order (before ++ end ∷ []) (value i) ≡ false
      none-from_end n i at past less =
          ap is_odd (count_from_end i less (omega (arith, at, past))) ∙ is_odd-at_zero (length before + 1) (omega (arith, other_parity (length before) odd))
        where
          other_parity : (n : ℕ) → (n % 2 ≡ 0 → ⊥) → n % 2 ≡ 1
          other_parity n other =
              elim (cases_lt 0 (n % 2)) as (λ _. n % 2 ≡ 1) [
                | inl one ↦ omega (arith, one)
                | inr none ↦ absurd (other (omega (arith, none)))
              ]

    -- a last range without an end
    module _ (even : length before % 2 ≡ 0) (n : ℕ) (greatest : n + 1 ≡ count) where
      pub member-greatest : member order (before ++ end ∷ []) (value n) ≡ true
      member-greatest =
          ap is_odd (count_from_end n (omega (arith, greatest)) (omega (arith, greatest, place_fits end w))) ∙ is_odd-at_one (length before + 1) (omega (arith, even))

      pub count-greatest : length before ≤ count_up_to order (before ++ end ∷ []) (value n)
      count-greatest = omega (arith, count_from_end n (omega (arith, greatest)) (omega (arith, greatest, place_fits end w)))

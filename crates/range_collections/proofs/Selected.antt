-- The member with a given number below it, and the members below a value, where boundaries are read
-- from the front.
use Rattle.std.proofs.Common.{◌≡◌, refl, sym, ap, subst, ◌∙◌, ℕ, ◌+◌, ◌-◌, ◌%◌, ◌<◌, ◌≤◌, true, List, [], ◌∷◌, ◌++◌, length, take, drop, get_or, Some, None, arith, append_assoc, length-append}
use Rattle.std.proofs.Math.Seq.{take-append_seam, get_or-append_seam}
use Rattle.std.specs.List.{AllWithin}
use Rattle.std.specs.Cmp.{IsTotalOrder}
use Rattle.std.specs.Ordering.{is_le, nat_cmp}
use Rattle.std.specs.declared.cmp.Ordering.{Ordering}
use Rattle.std.specs.declared.cmp.Ordering.TheVariants.{Greater}
use Rattle.std.proofs.lemmas.List.{append-nil, length-drop, length-take-le, take-append-drop, get_or_default, get_or-drop}
use Rattle.range_merge.specs.Boundaries.{IsAscending, member, is_odd}
use Rattle.range_collections.specs.Covered.{members_below}
use Rattle.range_collections.proofs.Points.{even-from_test}
use Rattle.range_collections.proofs.Ranked.{rank-front, rank-odd, place-le, next-below, member-selected, rank-selected, rank-none}
use Rattle.range_collections.proofs.Shortest.{le-from_greater}
use Rattle.range_collections.specs.Ended.{CountsEnded}
use Rattle.range_collections.proofs.ReadInPairs.{two-more, end-at}

module _ {K : Type 0} {order : K → K → Ordering} (o : IsTotalOrder order) (is_value : K → Type 0) (value : ℕ → K) (place : K → ℕ) (count : ℕ)
    (value_is_value : (n : ℕ) → n < count → is_value (value n))
    (place_of_value : (n : ℕ) → n < count → place (value n) ≡ n)
    (place_fits : (x : K) → is_value x → place x < count)
    (in_order : (x y : K) → is_value x → is_value y → order x y ≡ nat_cmp (place x) (place y)) where
  -- the boundaries from an even index on begin with a start, and `left` members of its range and
  -- those behind are below
  module _ (items : List K) (up : IsAscending order items) (i : ℕ) (even : i % 2 ≡ 0) (start : K) (v : is_value start)
      (others : List K) (first : drop i items ≡ start ∷ others) (k left : ℕ) (sum : left + members_below order value (take i items) count ≡ k) where
    within : i < length items
    within = omega (arith, length-drop i items, ap length first)

    here : (d : K) → get_or items i d ≡ start
    here d =
        let e : i + 0 ≡ i = omega arith in
        ap (λ j. get_or items j d) (sym e) ∙ sym (get_or-drop i items 0 d) ∙ ap (λ ys. get_or ys 0 d) first

    -- where the range ends behind it
    module _ (end : K) (w : is_value end) (rest : List K) (second : others ≡ end ∷ rest) (q : ℕ) (at : q ≡ place start + left) (low : q < place end) where
      more : i + 1 < length items
      more = two-more items i start end others rest first second

      next : AllWithin (λ y. order y (value q) ≡ Greater) items (i + 1) (length items)
      next =
          next-below o is_value value place count value_is_value place_of_value place_fits in_order items up i within even start v here end w
          (λ d. get_or_default items (i + 1) d end more ∙ sym (end-at items i start end others rest first second)) q low

      fits : q < count
      fits = omega (arith, low, place_fits end w)

      pub member-in_pair : member order items (value q) ≡ true
      member-in_pair =
          member-selected o is_value value place count value_is_value place_of_value place_fits in_order items up i within even start v here k left sum q at fits next

      pub rank-in_pair : members_below order value items (place (value q)) ≡ k
      rank-in_pair =
          rank-selected o is_value value place count value_is_value place_of_value place_fits in_order items up i within even start v here k left sum q at fits next

    -- where it is the last one and has no end
    module _ (none : others ≡ []) where
      nothing_more : (P : K → Type 0) → AllWithin P items (i + 1) (length items)
      nothing_more P j d a b = absurd (omega (arith, a, b, length-drop i items, ap length first, ap length none))

      module _ (q : ℕ) (at : q ≡ place start + left) (fits : q < count) where
        pub member-in_last : member order items (value q) ≡ true
        member-in_last =
            member-selected o is_value value place count value_is_value place_of_value place_fits in_order items up i within even start v here k left sum q at fits
            (nothing_more (λ y. order y (value q) ≡ Greater))

        pub rank-in_last : members_below order value items (place (value q)) ≡ k
        rank-in_last =
            rank-selected o is_value value place count value_is_value place_of_value place_fits in_order items up i within even start v here k left sum q at fits
            (nothing_more (λ y. order y (value q) ≡ Greater))

    pub rank-past : count ≤ place start + left → members_below order value items count ≤ k
    rank-past = rank-none o is_value value place count value_is_value place_of_value place_fits in_order items up i within even start v here k left sum

  -- the first n items, which lie up to a value as the others lie above it, and how many values
  -- their ranges with an end have
  module _ (items : List K) (up : IsAscending order items) (n : ℕ) (short : n ≤ length items) (x : K) (w : is_value x)
      (before : AllWithin (λ y. is_le (order y x) ≡ true) items 0 n) (from : AllWithin (λ y. order y x ≡ Greater) items n (length items)) (m : ℕ) where
    pub rank-ended : CountsEnded order value count (take n items) None m → m ≡ members_below order value items (place x)
    rank-ended it =
        let all : take n items ≡ it.ended = it.are_all ∙ append-nil it.ended in
        let even : n % 2 ≡ 0 = even-from_test (is_odd (length it.ended)) n (sym (ap is_odd (sym (length-take-le n items short) ∙ ap length all))) it.even in
        it.counted ∙ ap (λ ys. members_below order value ys count) (sym all)
        ∙ sym (rank-front o is_value value place count value_is_value place_of_value place_fits in_order items n short even x w before
        (λ k d a b. le-from_greater o _ _ (from k d a b)))

    module _ (start : K) (v : is_value start) (it : CountsEnded order value count (take n items) (Some start) m) where
      abbrev i : ℕ
      i = length it.ended

      one_more : n ≡ i + 1
      one_more = omega (arith, length-take-le n items short, ap length it.are_all, length-append it.ended (start ∷ []))

      even_before : i % 2 ≡ 0
      even_before = even-from_test (is_odd i) i refl it.even

      whole : items ≡ it.ended ++ (start ∷ drop n items)
      whole = sym (take-append-drop n items) ∙ ap (λ ys. ys ++ drop n items) it.are_all ∙ append_assoc it.ended (start ∷ []) (drop n items)

      front : take i items ≡ it.ended
      front = ap (take i) whole ∙ take-append_seam it.ended (start ∷ drop n items)

      at_start : (d : K) → get_or items i d ≡ start
      at_start d = ap (λ ys. get_or ys i d) whole ∙ get_or-append_seam it.ended start (drop n items) d

      far : is_le (order start x) ≡ true
      far = subst (λ y. is_le (order y x) ≡ true) (at_start start) (before i start (omega arith) (omega (arith, one_more)))

      pub start-below : place start ≤ place x
      start-below = place-le o is_value value place count value_is_value place_of_value place_fits in_order start x v w far

      pub rank-endless : m + (place x - place start) ≡ members_below order value items (place x)
      rank-endless =
          ap (λ k. k + (place x - place start)) (it.counted ∙ ap (λ ys. members_below order value ys count) (sym front))
          ∙ sym (rank-odd o is_value value place count value_is_value place_of_value place_fits in_order items up i (omega (arith, one_more, short)) even_before start v at_start x w far
          (λ k d a b. from k d (omega (arith, one_more, a)) b))

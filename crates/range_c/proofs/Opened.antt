-- Ranges whose ends ascend, and all numbers from somewhere on.
use Rattle.std.proofs.Common.{◌≡◌, refl, sym, ap, ap₂, ◌∙◌, subst, ℕ, ◌<◌, ◌≤◌, ◌+◌, ◌-◌, ◌*◌, Bool, true, false, cond, ◌&&◌, ◌||◌, Option, Some, None, List, [], ◌∷◌, ◌++◌, All, length, length-append, get_or, take, drop, arith}
use Rattle.std.specs.Cmp.{IsTotalOrder}
use Rattle.std.specs.List.{list_any}
use Rattle.std.specs.Option.{option_to_list}
use Rattle.std.specs.Ordering.{is_le, is_lt, is_ge, ord_min}
use Rattle.std.specs.declared.cmp.Ordering.{Ordering}
use Rattle.std.specs.declared.cmp.Ordering.TheVariants.{Less, Equal, Greater}
use Rattle.std.proofs.lemmas.List.{append-nil, length-take-le, take-append-drop, take_all, take_at, take-take}
use Rattle.std.proofs.lemmas.List.Elements.{All-nil, All-cons}
use Rattle.std.proofs.lemmas.List.Folds.{list_any-append}
use Rattle.range_merge.specs.Boundaries.{IsAscending, member}
use Rattle.range_merge.proofs.Orders.{Less-from_greater}
use Rattle.range_collections.proofs.Ascending.{IsAscending-tail, Less-from_is_lt}
use Rattle.range_collections.proofs.Cut.{IsAscending-take}
use Rattle.range_collections.proofs.Insertion.{IsAscending-append}
use Rattle.range_collections.proofs.Shortest.{is_le-cases, Less-then_le, le-trans}
use Rattle.range_collections.proofs.Values.{member-one}
use Rattle.range_c.specs.Ranges.{is_within, ends_of, ends_and, IsUnionOf, IsUnionFrom}
use Rattle.range_c.proofs.Joined.{ascending-one, below_end, ends_of-append, ends_of-push, front-by_last, is_le-reverse, member-ends_of, member-range_and, or-false}

or_assoc : (a b c : Bool) → (a || (b || c)) ≡ ((a || b) || c)
or_assoc true b c = refl
or_assoc false b c = refl

or_true : (b : Bool) → (b || true) ≡ true
or_true true = refl
or_true false = refl

or-regroup : (a b c : Bool) → ((a || (b || false)) || c) ≡ (a || (b || c))
or-regroup true b c = refl
or-regroup false true c = refl
or-regroup false false c = refl

and_true : (a : Bool) → (a && true) ≡ a
and_true true = refl
and_true false = refl

not_below : (v : Ordering) → is_ge v ≡ true → is_lt v ≡ false
not_below Less h = cc
not_below Equal h = refl
not_below Greater h = refl

below : (v : Ordering) → is_ge v ≡ false → v ≡ Less
below Less h = refl
below Equal h = cc
below Greater h = cc

-- what the first ranges hold, and all numbers from the start on, is what all ranges hold, and all
-- numbers from somewhere on
pub record IsExtended {P K : Type 0} (order : K → K → Ordering) (first last : P → K) (ranges : List P) (from : K) (kept : ℕ) (start : K) : Type 0 where
  pub within : kept ≤ length ranges
  pub members : (x : K) → (list_any (is_within order first last x) (take kept ranges) || is_le (order start x)) ≡ (list_any (is_within order first last x) ranges || is_le (order from x))

module _ {P K : Type 0} (first last : P → K) where
  pub length-ends_of : (rs : List P) → length (ends_of first last rs) ≡ 2 * length rs
  length-ends_of [] = refl
  length-ends_of (r ∷ rs) = omega (arith, length-ends_of rs)

  pub length-ends_and : (rs : List P) (start : Option K) → length (ends_and first last rs start) ≡ 2 * length rs + length (option_to_list start)
  length-ends_and rs start = omega (arith, length-append (ends_of first last rs) (option_to_list start), length-ends_of rs)

module _ {K : Type 0} {order : K → K → Ordering} (o : IsTotalOrder order) where
  -- x is at or above the lower one of two exactly if it is at or above one of them
  pub is_le-ord_min : (a b x : K) → is_le (order (ord_min order a b) x) ≡ (is_le (order a x) || is_le (order b x))
  is_le-ord_min a b x = by_test (is_lt (order b a)) refl
    where
      by_test : (t : Bool) → is_lt (order b a) ≡ t → is_le (order (cond t b a) x) ≡ (is_le (order a x) || is_le (order b x))
      by_test true e =
          is_le-cases (order a x)
          (λ at.
          let low : is_le (order b x) ≡ true = ap is_le (Less-then_le o b a x (Less-from_is_lt (order b a) e) at) in
          low ∙ sym (ap (λ p. p || is_le (order b x)) at))
          (λ past. sym (ap (λ p. is_le p || is_le (order b x)) past))
      by_test false e =
          is_le-cases (order b x)
          (λ at.
          let low : is_le (order a x) ≡ true = le-trans o a b x (is_le-reversed e) at in
          low ∙ sym (ap (λ p. p || is_le (order b x)) low))
          (λ past. sym (ap (λ p. is_le (order a x) || is_le p) past ∙ or-false (is_le (order a x))))
        where
          is_le-reversed : is_lt (order b a) ≡ false → is_le (order a b) ≡ true
          is_le-reversed h = ap is_le (o.antisymm a b) ∙ is_le-reverse (order b a) h

  module _ {P : Type 0} (first last : P → K) where
    abbrev holds : K → P → Bool
    holds x r = is_within order first last x r

    -- a range that reaches a start, and all numbers from there on, are all from the lower one of
    -- both starts on
    taken_in : (r : P) (start x : K) → is_ge (order (last r) start) ≡ true → (holds x r || is_le (order start x)) ≡ is_le (order (ord_min order start (first r)) x)
    taken_in r start x reaches =
        is_le-cases (order start x)
        (λ at.
        ap (λ p. holds x r || p) at ∙ or_true (holds x r)
        ∙ sym (is_le-ord_min start (first r) x ∙ ap (λ p. p || is_le (order (first r) x)) at))
        (λ past.
        let up_to : is_le (order start (last r)) ≡ true = ap is_le (o.antisymm start (last r)) ∙ is_le-reverse (order (last r) start) (not_below (order (last r) start) reaches) in
        let low : order x (last r) ≡ Less = Less-then_le o x start (last r) (Less-from_greater o start x past) up_to in
        ap₂ (λ l p. (is_le (order (first r) x) && l) || p) (ap is_lt low) (ap is_le past)
        ∙ or-false (is_le (order (first r) x) && true) ∙ and_true (is_le (order (first r) x))
        ∙ sym (is_le-ord_min start (first r) x ∙ ap (λ p. is_le p || is_le (order (first r) x)) past))

    pub IsExtended-start : (ranges : List P) (from : K) → IsExtended order first last ranges from (length ranges) from
    IsExtended-start ranges from = record {
      within = omega arith;
      members = λ x. ap (λ rs. list_any (holds x) rs || is_le (order from x)) (take_all (length ranges) ranges (omega arith));
    }

    pub IsExtended-more : (ranges : List P) (from start : K) (kept : ℕ) (r : P) → IsExtended order first last ranges from kept start → 0 < kept → r ≡ get_or ranges (kept - 1) r →
        is_ge (order (last r) start) ≡ true → IsExtended order first last ranges from (kept - 1) (ord_min order start (first r))
    IsExtended-more ranges from start kept r h some is reaches = record {
      within = omega (arith, h.within);
      members = λ x.
          ap (λ p. list_any (holds x) (take (kept - 1) ranges) || p) (sym (taken_in r start x reaches))
          ∙ sym (or-regroup (list_any (holds x) (take (kept - 1) ranges)) (holds x r) (is_le (order start x)))
          ∙ sym (ap (λ b. b || is_le (order start x)) (ap (list_any (holds x)) shown ∙ list_any-append (holds x) (take (kept - 1) ranges) (r ∷ [])))
          ∙ h.members x;
    }
      where
        shown : take kept ranges ≡ take (kept - 1) ranges ++ r ∷ []
        shown = front-by_last ranges kept r some h.within is

    ascending-front : (ranges : List P) (n : ℕ) → IsAscending order (ends_of first last ranges) → IsAscending order (ends_of first last (take n ranges))
    ascending-front ranges n up =
        let front = ends_of first last (take n ranges) in
        let parts : front ++ ends_of first last (drop n ranges) ≡ ends_of first last ranges =
        sym (ends_of-append o first last (take n ranges) (drop n ranges)) ∙ ap (ends_of first last) (take-append-drop n ranges) in
        subst (IsAscending order) (ap (take (length front)) (sym parts) ∙ take_at front (ends_of first last (drop n ranges)) (length front) refl)
        (IsAscending-take order (length front) (ends_of first last ranges) up)

    member-ends_and : (rs : List P) (start x : K) → IsAscending order (ends_of first last rs ++ start ∷ []) →
        member order (ends_of first last rs ++ start ∷ []) x ≡ (list_any (holds x) rs || is_le (order start x))
    member-ends_and [] start x up = member-one o start x
    member-ends_and (r ∷ rs) start x up =
        let rest = ends_of first last rs ++ start ∷ [] in
        member-range_and o first last r rest x (list_any (holds x) rs || is_le (order start x)) up
        (member-ends_and rs start x (IsAscending-tail order (last r) rest (IsAscending-tail order (first r) (last r ∷ rest) up)))
        ∙ or_assoc (holds x r) (list_any (holds x) rs) (is_le (order start x))

    IsUnionFrom-extended : (ranges : List P) (from start : K) (kept : ℕ) → IsExtended order first last ranges from kept start →
        IsAscending order (ends_of first last (take kept ranges) ++ start ∷ []) → IsUnionFrom order first last ranges (Some from) (take kept ranges) (Some start)
    IsUnionFrom-extended ranges from start kept h up = record {
      sorted = up;
      members = λ x. member-ends_and (take kept ranges) start x up ∙ h.members x;
    }

    -- no range is left, or the last one ends below the start
    pub extended-whole : (ranges : List P) (from start : K) (kept : ℕ) → IsExtended order first last ranges from kept start → kept ≡ 0 →
        IsUnionFrom order first last ranges (Some from) (take kept ranges) (Some start)
    extended-whole ranges from start kept h none =
        IsUnionFrom-extended ranges from start kept h (subst (λ n. IsAscending order (ends_of first last (take n ranges) ++ start ∷ [])) (sym none) (ascending-one o start))

    pub extended-apart : (ranges : List P) (from start : K) (kept : ℕ) (r : P) → IsAscending order (ends_of first last ranges) → IsExtended order first last ranges from kept start →
        0 < kept → r ≡ get_or ranges (kept - 1) r → is_ge (order (last r) start) ≡ false → IsUnionFrom order first last ranges (Some from) (take kept ranges) (Some start)
    extended-apart ranges from start kept r up h some is apart =
        IsUnionFrom-extended ranges from start kept h
        (IsAscending-append o (ends_of first last (take kept ranges)) (start ∷ []) (ascending-front ranges kept up) (ascending-one o start)
        (λ k d within. All-cons (λ y. order (get_or (ends_of first last (take kept ranges)) k d) y ≡ Less) start [] (low k d within) (All-nil (λ y. order (get_or (ends_of first last (take kept ranges)) k d) y ≡ Less))))
      where
        shown : ends_of first last (take kept ranges) ≡ (ends_of first last (take (kept - 1) ranges) ++ first r ∷ []) ++ last r ∷ []
        shown = ap (ends_of first last) (front-by_last ranges kept r some h.within is) ∙ ends_of-push o first last (take (kept - 1) ranges) r

        low : All (λ y. order y start ≡ Less) (ends_of first last (take kept ranges))
        low =
            subst (All (λ y. order y start ≡ Less)) (sym shown)
            (below_end o (ends_of first last (take (kept - 1) ranges) ++ first r ∷ []) (last r) start (subst (IsAscending order) shown (ascending-front ranges kept up)) (below (order (last r) start) apart))

    -- ---- from the union of ranges with an end

    pub IsUnionFrom-closed : (ranges front : List P) → IsUnionOf order first last ranges front → IsUnionFrom order first last ranges None front None
    IsUnionFrom-closed ranges front u = record {
      sorted = subst (IsAscending order) (sym (append-nil (ends_of first last front))) u.sorted;
      members = λ x. ap (λ ys. member order ys x) (append-nil (ends_of first last front)) ∙ u.members x ∙ sym (or-false (list_any (holds x) ranges));
    }

    pub IsUnionFrom-opened : (was now front : List P) (kept n : ℕ) (from start : K) → IsUnionOf order first last was (take kept now) → front ≡ take kept now → kept ≤ length now → n ≤ length front →
        IsUnionFrom order first last front (Some from) (take n front) (Some start) → IsUnionFrom order first last was (Some from) (take n now) (Some start)
    IsUnionFrom-opened was now front kept n from start u is within few e =
        subst (λ rs. IsUnionFrom order first last was (Some from) rs (Some start)) same (record {
          sorted = e.sorted;
          members = λ x. e.members x ∙ ap (λ b. b || is_le (order from x)) (sym (member-ends_of o first last front x up) ∙ ap (λ rs. member order (ends_of first last rs) x) is ∙ u.members x);
        })
      where
        up : IsAscending order (ends_of first last front)
        up = subst (λ rs. IsAscending order (ends_of first last rs)) (sym is) u.sorted

        same : take n front ≡ take n now
        same = ap (take n) is ∙ take-take n kept now (omega (arith, few, ap length is, length-take-le kept now within))

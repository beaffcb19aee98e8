-- A list of boundaries read in pairs from an even index on, and how many values are members.
use Rattle.std.proofs.Common.{◌≡◌, refl, sym, ap, ◌∙◌, ℕ, ◌+◌, ◌-◌, ◌%◌, ◌<◌, ◌≤◌, ◌==◌, true, false, cond, List, [], ◌∷◌, ◌++◌, length, take, drop, get_or, None, Some, arith, length-append}
use Rattle.std.proofs.lemmas.List.{append-nil, length-drop, length-take-le, take-append-drop, take_all, drop-drop, get_or-drop}
use Rattle.std.specs.declared.cmp.Ordering.{Ordering}
use Rattle.range_merge.specs.Boundaries.{is_odd}
use Rattle.range_collections.specs.Covered.{members_below, covered_of}
use Rattle.range_collections.proofs.Covered.{covered_of-even}
use Rattle.range_collections.proofs.Points.{even-from_test, is_odd-at_one}
use Rattle.range_collections.specs.Ended.{CountsEnded}

module _ {K : Type 0} (items : List K) (i : ℕ) where
  module _ (start end : K) (others rest : List K) (first : drop i items ≡ start ∷ others) (second : others ≡ end ∷ rest) where
    all-left : length items ≡ i + 2 + length rest
    all-left = omega (arith, length-drop i items, ap length first, ap length second)

    both : drop i items ≡ start ∷ end ∷ rest
    both = first ∙ ap (λ ys. start ∷ ys) second

    pub two-more : i + 1 < length items
    two-more = omega (arith, all-left)

    pub start-at : start ≡ get_or items i start
    start-at =
        let e : i + 0 ≡ i = omega arith in
        sym (ap (λ ys. get_or ys 0 start) both) ∙ get_or-drop i items 0 start ∙ ap (λ k. get_or items k start) e

    pub end-at : end ≡ get_or items (i + 1) end
    end-at = sym (ap (λ ys. get_or ys 1 end) both) ∙ get_or-drop i items 1 end

    pub index-after : length items - length rest ≡ i + 2
    index-after = omega (arith, all-left)

    pub rest-after : rest ≡ drop (i + 2) items
    rest-after = sym (sym (drop-drop 2 i items) ∙ ap (λ ys. drop 2 ys) both)

  -- the ranges with an end are before the index, where at most one boundary is left
  module _ (order : K → K → Ordering) (value : ℕ → K) (count : ℕ) (even : i % 2 ≡ 0) (n : ℕ) (same : n ≡ members_below order value (take i items) count) where
    pub CountsEnded-endless : (start : K) (others : List K) → drop i items ≡ start ∷ others → others ≡ [] → CountsEnded order value count items (Some start) n
    CountsEnded-endless start others first none =
        let here : drop i items ≡ start ∷ [] = first ∙ ap (λ ys. start ∷ ys) none in
        let within : i ≤ length items = omega (arith, length-drop i items, ap length here) in
        record {
          ended = take i items;
          are_all = sym (take-append-drop i items) ∙ ap (λ ys. take i items ++ ys) here;
          even = ap is_odd (length-take-le i items within) ∙ ap (λ m. m == 1) even;
          counted = same;
        }

    pub CountsEnded-ended : i ≡ length items → CountsEnded order value count items None n
    CountsEnded-ended end =
        let all = take_all i items (omega (arith, end)) in
        record {
          ended = items;
          are_all = sym (append-nil items);
          even = ap is_odd (sym end) ∙ ap (λ m. m == 1) even;
          counted = same ∙ ap (λ ys. members_below order value ys count) all;
        }

module _ {K : Type 0} (order : K → K → Ordering) (value : ℕ → K) (count : ℕ) (items : List K) (n : ℕ) where
  pub covered_of-endless : (start : K) → CountsEnded order value count items (Some start) n → None ≡ covered_of order value count items
  covered_of-endless start it =
      let odd : is_odd (length items) ≡ true = ap (λ ys. is_odd (length ys)) it.are_all ∙ odd-with_one it.ended start it.even in
      sym (ap (λ b. cond b None (Some (members_below order value items count))) odd)
    where
      odd-with_one : (ys : List K) (y : K) → is_odd (length ys) ≡ false → is_odd (length (ys ++ y ∷ [])) ≡ true
      odd-with_one ys y e =
          let two = even-from_test false (length ys) (sym e) refl in
          is_odd-at_one (length (ys ++ y ∷ [])) (omega (arith, length-append ys (y ∷ []), two))

  pub covered_of-ended : CountsEnded order value count items None n → Some n ≡ covered_of order value count items
  covered_of-ended it =
      let all : items ≡ it.ended = it.are_all ∙ append-nil it.ended in
      ap Some (it.counted ∙ ap (λ ys. members_below order value ys count) (sym all))
      ∙ sym (covered_of-even order value count items (ap (λ ys. is_odd (length ys)) all ∙ it.even))

-- The parts of a text between its commas, one by one, and the ranges that are read of them into a
-- set.
use Rattle.std.proofs.Common.{◌≡◌, refl, sym, ap, ◌∙◌, ℕ, ◌+◌, ◌≤◌, Bool, true, false, cond, ◌==◌, ◌||◌, ◌&&◌, ◌↔◌, Any, List, [], ◌∷◌, ◌++◌, length, length-append, append_assoc, arith, Option, Some, None, Result, Ok, Err, IsOk, IfOk, lit<}
use Rattle.std.specs.Borrow.{Bor}
use Rattle.std.specs.Cmp.{IsTotalOrder}
use Rattle.std.specs.Iterator.{AlwaysYields}
use Rattle.std.specs.List.{cons_option, flat_map, filter_map, list_all}
use Rattle.std.specs.Option.{is_some}
use Rattle.std.specs.Ordering.{is_lt}
use Rattle.std.specs.Str.{trim}
use Rattle.std.specs.Str.Iter.{split_steps, split_text, split_has_more, split_pattern}
use Rattle.std.specs.Str.Pattern.{FindsChar}
use Rattle.std.specs.declared.alloc.AllocError.{AllocError}
use Rattle.std.specs.declared.cmp.Ordering.{Ordering}
use Rattle.std.specs.declared.cmp.Ordering.TheVariants.{Less, Equal, Greater}
use Rattle.std.specs.declared.str.Split.{Split}
use Rattle.std.proofs.lemmas.Iterator.Splits.{YieldsList-from_str_split}
use Rattle.std.proofs.lemmas.List.{append-nil}
use Rattle.range_merge.specs.Boundaries.{member}
use Rattle.range_collections.specs.ManyRanges.{GivesOwn, IsUnderway}
use Rattle.range_collections.specs.Ranges.{range_boundaries, IsInRange}
use Rattle.range_collections.specs.Reading.{parts_of, range_in, is_ranges, ranges_in}
use Rattle.range_collections.specs.Unions.{is_in_one}
use Rattle.range_collections.specs.declared.range_set_range.RangeSetRange.{RangeSetRange}
use Rattle.range_collections.specs.declared.range_set_range.RangeSetRange.TheVariants.{Range, RangeFrom}
use Rattle.range_collections.proofs.Underway.{underway-none}
use Rattle.range_collections.proofs.Unions.{in_one_range}

-- ---- a step of an iterator that gives a list of items

module _ {S A B : Type 0} (steps : S → Option A → S → Type 0) (v : A → B) where
  pub yielded-some : (s t : S) (x : A) (ys : List B) → AlwaysYields steps v s ys → steps s (Some x) t → record { rest : List B; is : ys ≡ v x ∷ rest; yields : AlwaysYields steps v t rest }
  yielded-some s t x [] h k = absurd (h x t k)
  yielded-some s t x (y ∷ ys) h k = record { rest = ys; is = ap (λ z. z ∷ ys) (sym (h.1 x t k).0); yields = (h.1 x t k).1 }

  pub yielded-none : (s t : S) (ys : List B) → AlwaysYields steps v s ys → steps s None t → ys ≡ []
  yielded-none s t [] h k = refl
  yielded-none s t (y ∷ ys) h k = absurd (h.0 t k)

-- ---- the parts of a text

-- what splitting a text at its commas gives, and one part of it
module _ (s : Split ℕ) where
  pub yields-parts : (text : List ℕ) → split_text s ≡ text → split_has_more s ≡ true → split_pattern s ≡ 44 →
      AlwaysYields (split_steps FindsChar (λ a b. b ≡ a)) (λ x. x.now) s (parts_of text)
  yields-parts text is more pattern = (YieldsList-from_str_split {s = s} 44 text (lit< tt) is more pattern).runs

  pub next-part : (t : Split ℕ) (x : Bor (List ℕ)) (ys : List (List ℕ)) → AlwaysYields (split_steps FindsChar (λ a b. b ≡ a)) (λ y. y.now) s ys →
      split_steps FindsChar (λ a b. b ≡ a) s (Some x) t →
      record { rest : List (List ℕ); is : ys ≡ x.now ∷ rest; yields : AlwaysYields (split_steps FindsChar (λ a b. b ≡ a)) (λ y. y.now) t rest }
  next-part t x ys h k = yielded-some (split_steps FindsChar (λ a b. b ≡ a)) (λ y. y.now) s t x ys h k

  pub no_part : (t : Split ℕ) (ys : List (List ℕ)) → AlwaysYields (split_steps FindsChar (λ a b. b ≡ a)) (λ y. y.now) s ys →
      split_steps FindsChar (λ a b. b ≡ a) s None t → ys ≡ []
  no_part t ys h k = yielded-none (split_steps FindsChar (λ a b. b ≡ a)) (λ y. y.now) s t ys h k

module _ {K : Type 0} (number : List ℕ → Option K) where
  -- the ranges of a part and of the parts after it, where the part has one and where it has none
  pub ranges-step_some : (done all : List (RangeSetRange K)) (range : RangeSetRange K) (part : List ℕ) (left rest : List (List ℕ)) → left ≡ part ∷ rest → range_in number part ≡ Some range →
      done ++ filter_map (range_in number) left ≡ all → done ++ (range ∷ filter_map (range_in number) rest) ≡ all
  ranges-step_some done all range part left rest is found e =
      sym (ap (λ xs. done ++ filter_map (range_in number) xs) is ∙ ap (λ r. done ++ cons_option r (filter_map (range_in number) rest)) found) ∙ e

  pub ranges-step_none : (done all : List (RangeSetRange K)) (part : List ℕ) (left rest : List (List ℕ)) → left ≡ part ∷ rest → range_in number part ≡ None →
      done ++ filter_map (range_in number) left ≡ all → done ++ filter_map (range_in number) rest ≡ all
  ranges-step_none done all part left rest is found e =
      sym (ap (λ xs. done ++ filter_map (range_in number) xs) is ∙ ap (λ r. done ++ cons_option r (filter_map (range_in number) rest)) found) ∙ e

-- ---- a text whose ranges are read into a set

-- the parts that are left of a text; the ranges of those before are in the list, or put aside
pub record IsReadInto {K : Type 0} (order : K → K → Ordering) (number : List ℕ → Option K) (room : ℕ) (text : List ℕ) (s : Split ℕ) (list starts ends : List K) : Type 0 where
  pub left : List (List ℕ)
  pub yields : AlwaysYields (split_steps FindsChar (λ a b. b ≡ a)) (λ x. x.now) s left
  pub done : List (RangeSetRange K)
  pub ranges : done ++ filter_map (range_in number) left ≡ ranges_in number text
  pub few : length done + length left ≤ length (parts_of text)
  pub are_ranges : is_ranges number text ≡ ((length (trim text) == 0) || list_all (λ part. is_some (range_in number part)) left)
  pub underway : IsUnderway order room done list starts ends

or-true : (b : Bool) → (b || true) ≡ true
or-true true = refl
or-true false = refl

module _ {K : Type 0} (order : K → K → Ordering) where
  length-ends : (start end : K) (v : Ordering) → length (cond (is_lt v) (start ∷ end ∷ []) []) ≤ 2
  length-ends start end Less = omega arith
  length-ends start end Equal = omega arith
  length-ends start end Greater = omega arith

  length-range_boundaries : (range : RangeSetRange K) → length (range_boundaries order range) ≤ 2
  length-range_boundaries (Range r) = length-ends r.start r.end (order r.start r.end)
  length-range_boundaries (RangeFrom r) = omega arith

  length-at_most_one : (ranges : List (RangeSetRange K)) → length ranges ≤ 1 → length (flat_map (range_boundaries order) ranges) ≤ 2
  length-at_most_one [] h = omega arith
  length-at_most_one (r ∷ []) h = omega (arith, length-append (range_boundaries order r) [], length-range_boundaries r)
  length-at_most_one (r ∷ (q ∷ rest)) h = absurd (omega (arith, h))

module _ {K : Type 0} {order : K → K → Ordering} (o : IsTotalOrder order) (number : List ℕ → Option K) (room : ℕ) (text : List ℕ) (s : Split ℕ) where
  pub IsReadInto-start : split_text s ≡ text → split_has_more s ≡ true → split_pattern s ≡ 44 → IsReadInto order number room text s [] [] []
  unfolding ranges_in is_ranges
  IsReadInto-start is more pattern = record {
    left = parts_of text;
    yields = yields-parts s text is more pattern;
    done = [];
    ranges = refl;
    few = omega arith;
    are_ranges = refl;
    underway = underway-none o room;
  }

  abbrev are_or_blank : List (List ℕ) → Bool
  are_or_blank parts = (length (trim text) == 0) || list_all (λ part. is_some (range_in number part)) parts

  module _ (list starts ends : List K) (h : IsReadInto order number room text s list starts ends) where
    -- where no part is left
    module _ (t : Split ℕ) (k : split_steps FindsChar (λ a b. b ≡ a) s None t) where
      pub are_ranges-whole : is_ranges number text ≡ true
      are_ranges-whole = h.are_ranges ∙ ap are_or_blank (no_part s t h.left h.yields k) ∙ or-true (length (trim text) == 0)

      whole : h.done ≡ ranges_in number text
      whole = sym (append-nil h.done) ∙ ap (λ xs. h.done ++ filter_map (range_in number) xs) (sym (no_part s t h.left h.yields k)) ∙ h.ranges

      pub members-whole : (r : Result (List K) AllocError) → GivesOwn order room h.done r →
          IfOk r (λ set. (x : K) → (member order set x ≡ true) ↔ Any (λ range. IsInRange order range x) (ranges_in number text))
      members-whole (Ok set) g = λ x.
          in_one_range o (ranges_in number text) x (member order set x)
          (g.means.members x ∙ ap (λ ranges. is_in_one order (range_boundaries order) ranges x) whole)
      members-whole (Err error) g = tt

      pub succeeds-whole : (r : Result (List K) AllocError) → GivesOwn order room h.done r → length (parts_of text) ≤ 1 → 2 ≤ room → IsOk r
      succeeds-whole r g one two =
          g.succeeds (omega (arith, two, length-at_most_one order h.done (omega (arith, one, h.few)))) (λ i d within. tt)

    -- where a part is next
    module _ (t : Split ℕ) (x : Bor (List ℕ)) (k : split_steps FindsChar (λ a b. b ≡ a) s (Some x) t) where
      pub IsReadInto-range : (range : RangeSetRange K) (new starts_after ends_after : List K) → range_in number x.now ≡ Some range →
          IsUnderway order room (h.done ++ range ∷ []) new starts_after ends_after → IsReadInto order number room text t new starts_after ends_after
      IsReadInto-range range new starts_after ends_after found underway =
          let next = next-part s t x h.left h.yields k in
          record {
            left = next.rest;
            yields = next.yields;
            done = h.done ++ range ∷ [];
            ranges =
                append_assoc h.done (range ∷ []) (filter_map (range_in number) next.rest)
                ∙ ranges-step_some number h.done (ranges_in number text) range x.now h.left next.rest next.is found h.ranges;
            few = omega (arith, h.few, length-append h.done (range ∷ []), ap length next.is);
            are_ranges =
                h.are_ranges ∙ ap are_or_blank next.is
                ∙ ap (λ r. (length (trim text) == 0) || (is_some r && list_all (λ part. is_some (range_in number part)) next.rest)) found;
            underway = underway;
          }

      -- one range has room
      pub room-one : (range : RangeSetRange K) → length (parts_of text) ≤ 1 → 2 ≤ room → length (flat_map (range_boundaries order) (h.done ++ range ∷ [])) ≤ room
      room-one range one two =
          let next = next-part s t x h.left h.yields k in
          omega (
            arith,
            two,
            length-at_most_one order (h.done ++ range ∷ []) (omega (arith, one, h.few, length-append h.done (range ∷ []), ap length next.is)),
          )

      pub IsReadInto-blank : range_in number x.now ≡ None → (length (trim text) == 0) ≡ true → IsReadInto order number room text t list starts ends
      IsReadInto-blank found blank =
          let next = next-part s t x h.left h.yields k in
          record {
            left = next.rest;
            yields = next.yields;
            done = h.done;
            ranges = ranges-step_none number h.done (ranges_in number text) x.now h.left next.rest next.is found h.ranges;
            few = omega (arith, h.few, ap length next.is);
            are_ranges =
                h.are_ranges ∙ ap (λ b. b || list_all (λ part. is_some (range_in number part)) h.left) blank
                ∙ sym (ap (λ b. b || list_all (λ part. is_some (range_in number part)) next.rest) blank);
            underway = h.underway;
          }

      pub are_ranges-none : range_in number x.now ≡ None → (length (trim text) == 0) ≡ false → is_ranges number text ≡ false
      are_ranges-none found full =
          let next = next-part s t x h.left h.yields k in
          h.are_ranges ∙ ap are_or_blank next.is
          ∙ ap (λ b. b || (is_some (range_in number x.now) && list_all (λ part. is_some (range_in number part)) next.rest)) full
          ∙ ap (λ r. is_some r && list_all (λ part. is_some (range_in number part)) next.rest) found

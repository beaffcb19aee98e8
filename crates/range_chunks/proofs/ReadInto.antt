-- A text whose ranges are inserted into a set, part by part.
use Rattle.std.proofs.Common.{◌≡◌, sym, ap, ap₂, ◌∙◌, refl, Bool, true, false, ◌||◌, ◌↔◌, Any, List, [], ◌∷◌, ◌++◌, append_assoc, Option, Some, None, ℕ}
use Rattle.std.specs.Borrow.{Bor}
use Rattle.std.specs.Cmp.{IsTotalOrder}
use Rattle.std.specs.Iterator.{AlwaysYields}
use Rattle.std.specs.List.{filter_map}
use Rattle.std.specs.Str.Iter.{split_steps, split_text, split_has_more, split_pattern}
use Rattle.std.specs.Str.Pattern.{FindsChar}
use Rattle.std.specs.declared.cmp.Ordering.{Ordering}
use Rattle.std.specs.declared.str.Split.{Split}
use Rattle.std.proofs.lemmas.List.{append-nil}
use Rattle.std.proofs.lemmas.List.Folds.{list_any-append}
use Rattle.range_merge.specs.Boundaries.{member}
use Rattle.range_merge.specs.Connective.{Means, union_table}
use Rattle.range_collections.specs.Ranges.{range_boundaries, IsInRange}
use Rattle.range_collections.specs.Reading.{parts_of, range_in, ranges_in}
use Rattle.range_collections.specs.Unions.{is_in_one}
use Rattle.range_collections.specs.declared.range_set_range.RangeSetRange.{RangeSetRange}
use Rattle.range_collections.proofs.ReadParts.{yields-parts, next-part, no_part, ranges-step_some, ranges-step_none}
use Rattle.range_collections.proofs.Unions.{in_one_range}

-- the parts that are left of a text; the ranges of those before are in the set
pub record IsInserted {K : Type 0} (order : K → K → Ordering) (number : List ℕ → Option K) (text : List ℕ) (s : Split ℕ) (set : List K) : Type 0 where
  pub left : List (List ℕ)
  pub yields : AlwaysYields (split_steps FindsChar (λ a b. b ≡ a)) (λ x. x.now) s left
  pub done : List (RangeSetRange K)
  pub ranges : done ++ filter_map (range_in number) left ≡ ranges_in number text
  pub members : (x : K) → member order set x ≡ is_in_one order (range_boundaries order) done x

or-none : (b : Bool) → b ≡ (b || false)
or-none true = refl
or-none false = refl

module _ {K : Type 0} {order : K → K → Ordering} (o : IsTotalOrder order) (number : List ℕ → Option K) (text : List ℕ) (s : Split ℕ) where
  pub IsInserted-start : (set : List K) → ((x : K) → member order set x ≡ false) → split_text s ≡ text → split_has_more s ≡ true → split_pattern s ≡ 44 →
      IsInserted order number text s set
  unfolding ranges_in
  IsInserted-start set none is more pattern = record {
    left = parts_of text;
    yields = yields-parts s text is more pattern;
    done = [];
    ranges = refl;
    members = none;
  }

  module _ (set : List K) (h : IsInserted order number text s set) where
    -- where no part is left
    pub members-inserted : (t : Split ℕ) → split_steps FindsChar (λ a b. b ≡ a) s None t → (x : K) →
        (member order set x ≡ true) ↔ Any (λ range. IsInRange order range x) (ranges_in number text)
    members-inserted t k x =
        let all : h.done ≡ ranges_in number text =
        sym (append-nil h.done) ∙ ap (λ xs. h.done ++ filter_map (range_in number) xs) (sym (no_part s t h.left h.yields k)) ∙ h.ranges in
        in_one_range o (ranges_in number text) x (member order set x) (h.members x ∙ ap (λ ranges. is_in_one order (range_boundaries order) ranges x) all)

    -- where a part is next
    module _ (t : Split ℕ) (part : Bor (List ℕ)) (k : split_steps FindsChar (λ a b. b ≡ a) s (Some part) t) where
      pub IsInserted-range : (range : RangeSetRange K) (new : List K) → range_in number part.now ≡ Some range →
          Means order union_table new set (range_boundaries order range) → IsInserted order number text t new
      IsInserted-range range new found m =
          let next = next-part s t part h.left h.yields k in
          record {
            left = next.rest;
            yields = next.yields;
            done = h.done ++ range ∷ [];
            ranges =
                append_assoc h.done (range ∷ []) (filter_map (range_in number) next.rest)
                ∙ ranges-step_some number h.done (ranges_in number text) range part.now h.left next.rest next.is found h.ranges;
            members = λ x.
                m.members x ∙ ap₂ (λ p q. p || q) (h.members x) (or-none (member order (range_boundaries order range) x))
                ∙ sym (list_any-append (λ r. member order (range_boundaries order r) x) h.done (range ∷ []));
          }

      pub IsInserted-none : range_in number part.now ≡ None → IsInserted order number text t set
      IsInserted-none found =
          let next = next-part s t part h.left h.yields k in
          record {
            left = next.rest;
            yields = next.yields;
            done = h.done;
            ranges = ranges-step_none number h.done (ranges_in number text) part.now h.left next.rest next.is found h.ranges;
            members = h.members;
          }

-- Ranges read one by one into a buffer, and how many numbers they have.
use Rattle.std.proofs.Common.{◌≡◌, sym, ap, ap₂, ◌∙◌, ℕ, ◌+◌, ◌*◌, ◌≤◌, Bool, true, false, ◌==◌, ◌&&◌, ◌||◌, Option, Some, None, List, [], ◌∷◌, ◌++◌, length, length-append, append_assoc, subst, arith, refl}
use Rattle.std.specs.Borrow.{Bor}
use Rattle.std.specs.Cmp.{IsTotalOrder}
use Rattle.std.specs.Iterator.{AlwaysYields}
use Rattle.std.specs.List.{cons_option, flat_map, filter_map, list_all, list_any}
use Rattle.std.specs.Option.{is_some, option_to_list}
use Rattle.std.specs.Ordering.{is_le, is_lt}
use Rattle.std.specs.Str.{trim}
use Rattle.std.specs.Str.Iter.{split_steps, split_text, split_has_more, split_pattern}
use Rattle.std.specs.Str.Pattern.{FindsChar}
use Rattle.std.specs.declared.cmp.Ordering.{Ordering}
use Rattle.std.specs.declared.str.Split.{Split}
use Rattle.std.proofs.lemmas.Grind.{flat_map-append}
use Rattle.std.proofs.lemmas.List.{append-nil}
use Rattle.std.proofs.lemmas.List.Folds.{list_any-append}
use Rattle.range_collections.specs.Boundaries.{member}
use Rattle.range_collections.specs.Ranges.{range_boundaries, range_ends}
use Rattle.range_collections.specs.Reading.{parts_of, range_in, is_ranges, ranges_in}
use Rattle.range_collections.specs.Unions.{is_in_one}
use Rattle.range_collections.specs.declared.range_set_range.RangeSetRange.{RangeSetRange}
use Rattle.range_collections.specs.declared.range_set_range.RangeSetRange.TheVariants.{Range, RangeFrom}
use Rattle.range_collections.proofs.PartsLaws.{member-range_items}
use Rattle.range_collections.proofs.ReadParts.{next-part, no_part, ranges-step_none, ranges-step_some, yields-parts}
use Rattle.range_collections.proofs.Sets.{and-assoc}
use Rattle.range_collections.proofs.Values.{member-one}
use Rattle.range_c.specs.Ranges.{is_from, is_within}
use Rattle.range_c.specs.Reading.{numbers_in}

-- ---- the parts of a text

module _ {K : Type 0} (number : List ℕ → Option K) where
  -- the numbers of a part and of the parts after it
  pub numbers-step : (count total : ℕ) (part : List ℕ) (left rest : List (List ℕ)) → left ≡ part ∷ rest →
      count + length (flat_map range_ends (filter_map (range_in number) left)) ≡ total →
      count + length (flat_map range_ends (option_to_list (range_in number part))) + length (flat_map range_ends (filter_map (range_in number) rest)) ≡ total
  numbers-step count total part left rest is all = by_range (range_in number part) (sym (ap (λ xs. count + length (flat_map range_ends (filter_map (range_in number) xs))) is) ∙ all)
    where
      by_range : (r : Option (RangeSetRange K)) → count + length (flat_map range_ends (cons_option r (filter_map (range_in number) rest))) ≡ total →
          count + length (flat_map range_ends (option_to_list r)) + length (flat_map range_ends (filter_map (range_in number) rest)) ≡ total
      by_range None e = omega (arith, e)
      by_range (Some r) e = omega (arith, e, length-append (range_ends r) (flat_map range_ends (filter_map (range_in number) rest)), length-append (range_ends r) [])

  -- whether all parts are ranges: a part and those after it
  abbrev pub are_ranges : List (List ℕ) → Bool
  are_ranges parts = list_all (λ part. is_some (range_in number part)) parts

  pub are_ranges-step : (so_far all range : Bool) (part : List ℕ) (left rest : List (List ℕ)) → left ≡ part ∷ rest → range ≡ is_some (range_in number part) →
      (so_far && are_ranges left) ≡ all → ((so_far && range) && are_ranges rest) ≡ all
  are_ranges-step so_far all range part left rest is found e =
      ap (λ r. (so_far && r) && are_ranges rest) found
      ∙ and-assoc so_far (is_some (range_in number part)) (are_ranges rest)
      ∙ ap (λ parts. so_far && are_ranges parts) (sym is)
      ∙ e

  pub is_ranges-all : (text : List ℕ) → are_ranges (parts_of text) ≡ true → is_ranges number text ≡ true
  unfolding is_ranges
  is_ranges-all text all = ap (λ b. (length (trim text) == 0) || b) all ∙ or_true (length (trim text) == 0)
    where
      or_true : (b : Bool) → (b || true) ≡ true
      or_true true = refl
      or_true false = refl

-- there is room for the ends of the next range
pub length-next : {K : Type 0} (done rest all : List (RangeSetRange K)) (range : RangeSetRange K) → done ++ (range ∷ rest) ≡ all →
    length (flat_map range_ends done) + length (range_ends range) ≤ length (flat_map range_ends all)
length-next done rest all range is =
    omega (
      arith,
      ap (λ xs. length (flat_map range_ends xs)) is,
      ap length (flat_map-append range_ends done (range ∷ rest)),
      length-append (flat_map range_ends done) (flat_map range_ends (range ∷ rest)),
      length-append (range_ends range) (flat_map range_ends rest),
    )

pub length-one_more : {K : Type 0} (done : List (RangeSetRange K)) (range : RangeSetRange K) →
    length (flat_map range_ends (done ++ range ∷ [])) ≡ length (flat_map range_ends done) + length (range_ends range)
length-one_more done range =
    omega (
      arith,
      ap length (flat_map-append range_ends done (range ∷ [])),
      length-append (flat_map range_ends done) (flat_map range_ends (range ∷ [])),
      length-append (range_ends range) [],
    )

-- ---- the ranges that are read

-- the front has the ranges with an end, and the others begin at `from`
pub record AreRead {P K : Type 0} (order : K → K → Ordering) (first last : P → K) (done : List (RangeSetRange K)) (front : List P) (from : Option K) : Type 0 where
  pub few : 2 * length front + length (option_to_list from) ≤ length (flat_map range_ends done)
  pub members : (x : K) → (list_any (is_within order first last x) front || is_from order from x) ≡ is_in_one order (range_boundaries order) done x

one_more : (a b c d : Bool) → ((a || (c || false)) || b) ≡ ((a || b) || (c || false))
one_more true b c d = refl
one_more false true true d = refl
one_more false true false d = refl
one_more false false c d = by_truth c
  where
    by_truth : (c : Bool) → ((c || false) || false) ≡ (c || false)
    by_truth true = refl
    by_truth false = refl

from_more : (a b c : Bool) → (a || (b || c)) ≡ ((a || b) || (c || false))
from_more true b c = refl
from_more false true c = refl
from_more false false true = refl
from_more false false false = refl

module _ {P K : Type 0} {order : K → K → Ordering} (o : IsTotalOrder order) (first last : P → K) where
  pub AreRead-none : AreRead order first last [] [] None
  AreRead-none = record { few = omega arith; members = λ x. refl }

  pub AreRead-range : (done : List (RangeSetRange K)) (front : List P) (from : Option K) (r : P) (start end : K) → first r ≡ start → last r ≡ end → AreRead order first last done front from →
      AreRead order first last (done ++ Range (record { start = start; end = end }) ∷ []) (front ++ r ∷ []) from
  AreRead-range done front from r start end starts ends h = record {
    few = omega (arith, h.few, length-append front (r ∷ []), length-one_more done (Range (record { start = start; end = end })));
    members = λ x.
        ap (λ b. b || is_from order from x) (list_any-append (is_within order first last x) front (r ∷ []))
        ∙ one_more (list_any (is_within order first last x) front) (is_from order from x) (is_within order first last x r) false
        ∙ ap₂ (λ b c. b || (c || false)) (h.members x) (ap₂ (λ s e. is_le (order s x) && is_lt (order x e)) starts ends ∙ sym (member-range_items o start end x))
        ∙ sym (list_any-append (λ part. member order (range_boundaries order part) x) done (Range (record { start = start; end = end }) ∷ []));
  }

  pub AreRead-from : (done : List (RangeSetRange K)) (front : List P) (from : Option K) (start low : K) →
      ((x : K) → is_le (order low x) ≡ (is_from order from x || is_le (order start x))) → AreRead order first last done front from →
      AreRead order first last (done ++ RangeFrom (record { start = start }) ∷ []) front (Some low)
  AreRead-from done front from start low lowest h = record {
    few = omega (arith, h.few, length-one_more done (RangeFrom (record { start = start })));
    members = λ x.
        ap (λ b. list_any (is_within order first last x) front || b) (lowest x)
        ∙ from_more (list_any (is_within order first last x) front) (is_from order from x) (is_le (order start x))
        ∙ ap₂ (λ b c. b || (c || false)) (h.members x) (sym (member-one o start x))
        ∙ sym (list_any-append (λ part. member order (range_boundaries order part) x) done (RangeFrom (record { start = start }) ∷ []));
  }

pub none_before : (n : ℕ) → 0 + n ≡ n
none_before n = omega arith

-- ---- a text whose ranges are read

-- the parts that are left of a text, and what is read of those before
pub record IsReading {P K : Type 0} (order : K → K → Ordering) (number : List ℕ → Option K) (first last : P → K) (text : List ℕ) (s : Split ℕ) (front : List P) (from : Option K) : Type 0 where
  pub left : List (List ℕ)
  pub yields : AlwaysYields (split_steps FindsChar (λ a b. b ≡ a)) (λ x. x.now) s left
  pub done : List (RangeSetRange K)
  pub parts : done ++ filter_map (range_in number) left ≡ ranges_in number text
  pub read : AreRead order first last done front from

module _ {P K : Type 0} {order : K → K → Ordering} (o : IsTotalOrder order) (number : List ℕ → Option K) (first last : P → K) (text : List ℕ) (s : Split ℕ) where
  pub IsReading-start : split_text s ≡ text → split_has_more s ≡ true → split_pattern s ≡ 44 → IsReading order number first last text s [] None
  unfolding ranges_in
  IsReading-start is more pattern = record { left = parts_of text; yields = yields-parts s text is more pattern; done = []; parts = refl; read = AreRead-none o first last }

  module _ (front : List P) (from : Option K) (h : IsReading order number first last text s front from) where
    pub AreRead-all : (t : Split ℕ) → split_steps FindsChar (λ a b. b ≡ a) s None t → AreRead order first last (ranges_in number text) front from
    AreRead-all t k =
        let none = no_part s t h.left h.yields k in
        subst (λ done. AreRead order first last done front from)
        (sym (append-nil h.done) ∙ ap (λ xs. h.done ++ filter_map (range_in number) xs) (sym none) ∙ h.parts) h.read

    module _ (t : Split ℕ) (x : Bor (List ℕ)) (k : split_steps FindsChar (λ a b. b ≡ a) s (Some x) t) where
      pub IsReading-none : range_in number x.now ≡ None → IsReading order number first last text t front from
      IsReading-none found =
          let next = next-part s t x h.left h.yields k in
          record {
            left = next.rest;
            yields = next.yields;
            done = h.done;
            parts = ranges-step_none number h.done (ranges_in number text) x.now h.left next.rest next.is found h.parts;
            read = h.read;
          }

      -- a part with a range has its numbers beside those before
      pub fits-more : (range : RangeSetRange K) → range_in number x.now ≡ Some range →
          2 * length front + length (option_to_list from) + length (range_ends range) ≤ numbers_in number text
      fits-more range found =
          let next = next-part s t x h.left h.yields k in
          let all = ranges-step_some number h.done (ranges_in number text) range x.now h.left next.rest next.is found h.parts in
          omega (arith, h.read.few, length-next h.done (filter_map (range_in number) next.rest) (ranges_in number text) range all)

      more : (range : RangeSetRange K) (front_after : List P) (from_after : Option K) → range_in number x.now ≡ Some range → AreRead order first last (h.done ++ range ∷ []) front_after from_after →
          IsReading order number first last text t front_after from_after
      more range front_after from_after found read =
          let next = next-part s t x h.left h.yields k in
          record {
            left = next.rest;
            yields = next.yields;
            done = h.done ++ range ∷ [];
            parts =
                append_assoc h.done (range ∷ []) (filter_map (range_in number) next.rest)
                ∙ ranges-step_some number h.done (ranges_in number text) range x.now h.left next.rest next.is found h.parts;
            read = read;
          }

      pub IsReading-range : (r : P) (start end : K) → range_in number x.now ≡ Some (Range (record { start = start; end = end })) → first r ≡ start → last r ≡ end →
          IsReading order number first last text t (front ++ r ∷ []) from
      IsReading-range r start end found starts ends =
          more (Range (record { start = start; end = end })) (front ++ r ∷ []) from found (AreRead-range o first last h.done front from r start end starts ends h.read)

      pub IsReading-from : (start low : K) → range_in number x.now ≡ Some (RangeFrom (record { start = start })) →
          ((y : K) → is_le (order low y) ≡ (is_from order from y || is_le (order start y))) → IsReading order number first last text t front (Some low)
      IsReading-from start low found lowest =
          more (RangeFrom (record { start = start })) front (Some low) found (AreRead-from o first last h.done front from start low lowest h.read)

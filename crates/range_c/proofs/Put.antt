-- Texts put one after the other in a buffer.
use Rattle.std.proofs.Common.{◌≡◌, refl, ◌∷◌, sym, ap, ap₂, subst, ◌∙◌, ℕ, ◌*◌, ◌/◌, ◌≤◌, List, [], ◌++◌, length, take, drop, append_assoc, arith}
use Rattle.std.proofs.lemmas.List.{append-nil, flat_map_more, length-append, length-take-le, length-drop, take_all, take_at, drop_at, drop-drop, take-append-drop}
use Rattle.std.specs.List.{flat_map}
use Rattle.range_collections.specs.Ranges.{range_ends, ranges_of}
use Rattle.range_collections.specs.declared.range_set_range.RangeSetRange.{RangeSetRange}
use Rattle.range_collections.specs.declared.range_set_range.RangeSetRange.TheVariants.{Range, RangeFrom}
use Rattle.range_c.specs.Chunked.{CopiesFront}
use Rattle.range_c.specs.Text.{AnswersText, PutsText}

-- no text leaves all as it was
pub PutsText-nothing : {K : Type 0} (len : ℕ) (old : List K) → PutsText len [] old old len
PutsText-nothing len old = record {
  counted = omega arith;
  written = λ h. sym (take-append-drop len old);
}

-- a text, and another after it
pub PutsText-append : {K : Type 0} (len m n : ℕ) (front back old mid new : List K) → PutsText len front old mid m → PutsText m back mid new n → PutsText len (front ++ back) old new n
PutsText-append {K} len m n front back old mid new first second = record {
  counted = omega (arith, first.counted, second.counted, length-append front back);
  written = λ h.
      let early : m ≤ length old = omega (arith, second.counted, h) in
      let before : List K = take len old ++ front in
      let whole : mid ≡ before ++ drop m old = first.written early ∙ sym (append_assoc (take len old) front (drop m old)) in
      let long : length before ≡ m = omega (arith, length-append (take len old) front, length-take-le len old (omega (arith, first.counted, early)), first.counted) in
      let same : length mid ≡ length old = ap length (first.written early) ∙ omega (arith, length-append (take len old) (front ++ drop m old), length-append front (drop m old), length-take-le len old (omega (arith, first.counted, early)), first.counted, length-drop m old, early) in
      let after : drop n mid ≡ drop n old =
      ap (λ k. drop k mid) second.counted
      ∙ sym (drop-drop (length back) m mid)
      ∙ ap (λ xs. drop (length back) (drop m xs)) whole
      ∙ ap (drop (length back)) (drop_at before (drop m old) m long)
      ∙ drop-drop (length back) m old
      ∙ ap (λ k. drop k old) (sym second.counted) in
      second.written (omega (arith, same, h))
      ∙ ap₂ (λ xs ys. xs ++ (back ++ ys)) (ap (take m) whole ∙ take_at before (drop m old) m long) after
      ∙ append_assoc (take len old) front (back ++ drop n old)
      ∙ ap (λ xs. take len old ++ xs) (sym (append_assoc front back (drop n old)));
}

-- a text put at the front is what an export answers
pub AnswersText-put : {K : Type 0} (n : ℕ) (text old new : List K) → PutsText 0 text old new n → n ≤ length old → AnswersText text old new n
AnswersText-put n text old new put fits = record {
  counted = omega (arith, put.counted);
  written = put.written;
  unchanged = λ h. absurd (omega (arith, h, fits));
}

-- the ends of a list's ranges are the list
pub ends-ranges_of : {K : Type 0} (items : List K) → flat_map range_ends (ranges_of items) ≡ items
ends-ranges_of [] = refl
ends-ranges_of (x ∷ []) = refl
ends-ranges_of (x ∷ y ∷ rest) = ap (λ xs. x ∷ y ∷ xs) (ends-ranges_of rest)

-- a range has one or two ends, and so many have twice as many at most
pub length-range_ends : {K : Type 0} (range : RangeSetRange K) → length (range_ends range) ≤ 2
length-range_ends (Range r) = omega arith
length-range_ends (RangeFrom r) = omega arith

pub length-all_ends : {K : Type 0} (ranges : List (RangeSetRange K)) → length (flat_map range_ends ranges) ≤ 2 * length ranges
length-all_ends [] = omega arith
length-all_ends (Range r ∷ rest) = omega (arith, length-all_ends rest)
length-all_ends (RangeFrom r ∷ rest) = omega (arith, length-all_ends rest)

-- the ends of some ranges, and those of one more after them
pub PutsText-ends : {K : Type 0} (done : List (RangeSetRange K)) (one : RangeSetRange K) (m n : ℕ) (old mid new : List K)
    → PutsText 0 (flat_map range_ends done) old mid m → PutsText m (range_ends one) mid new n → PutsText 0 (flat_map range_ends (done ++ one ∷ [])) old new n
PutsText-ends done one m n old mid new first second =
    subst (λ text. PutsText 0 text old new n) (flat_map_more range_ends [] done one) (PutsText-append 0 m n (flat_map range_ends done) (range_ends one) old mid new first second)

module _ {K : Type 0} (ranges done rest : List (RangeSetRange K)) (old new : List K) (n : ℕ)
    (put : PutsText 0 (flat_map range_ends done) old new n) (whole : done ++ rest ≡ ranges) where
  first_ones : done ≡ take (length old / 2) ranges → length done ≤ length old / 2 → CopiesFront ranges old new n
  first_ones same few = record {
    counted = omega (arith, put.counted, ap (λ rs. length (flat_map range_ends rs)) same);
    written = put.written (omega (arith, put.counted, few, length-all_ends done)) ∙ ap (λ rs. flat_map range_ends rs ++ drop n old) same;
  }

  -- half as many ranges as the buffer is long
  pub CopiesFront-full : length done ≡ length old / 2 → CopiesFront ranges old new n
  CopiesFront-full full = first_ones (sym (take_at done rest (length old / 2) full) ∙ ap (take (length old / 2)) whole) (omega (arith, full))

  -- fewer, and these are all
  pub CopiesFront-all : rest ≡ [] → length done ≤ length old / 2 → CopiesFront ranges old new n
  CopiesFront-all none few =
      let all : done ≡ ranges = sym (append-nil done) ∙ ap (λ xs. done ++ xs) (sym none) ∙ whole in
      first_ones (all ∙ sym (take_all (length old / 2) ranges (omega (arith, few, ap length all)))) few

-- What is written of ranges is read back: the parts of the text, and each part between blanks.
use Rattle.std.proofs.Common.{◌≡◌, refl, sym, ap, ap₂, ◌∙◌, ℕ, suc, ◌+◌, ◌<◌, ◌==◌, Bool, true, false, not, ◌&&◌, ◌||◌, cond, List, [], ◌∷◌, ◌++◌, length, take, drop, map, arith, All, Option, Some, None}
use Rattle.std.specs.Char.{is_whitespace}
use Rattle.std.specs.List.{AllByRecursion, before_first, after_first, position_or_len, slice_split, list_all, filter_map, cons_option}
use Rattle.std.specs.Option.{is_some, option_map, option_and_then}
use Rattle.std.specs.Str.{IsAscii, trim, trim_start, trim_end, skip_leading_whitespace, drop_trailing_whitespace, encode_utf8_all}
use Rattle.std.proofs.lemmas.List.{append-nil}
use Rattle.std.proofs.lemmas.List.Elements.{All-nil, All-cons, All-head, All-tail}
use Rattle.std.proofs.lemmas.List.Splits.{slice_split_none, slice_split_at}
use Rattle.std.proofs.lemmas.Str.{encodes-IsAscii, chars-IsAscii}
use Rattle.std.proofs.lemmas.Str.Ascii.{IsAscii-nil, IsAscii-cons}
use Rattle.range_collections.specs.Ranges.{ranges_of, AllEnds}
use Rattle.range_collections.specs.Text.{range_text, others_text, ranges_text}
use Rattle.range_collections.specs.Reading.{IsPlain, IsReadBack, parts_of, range_up_to, range_after_dot, range_of, range_in, is_ranges, ranges_in}
use Rattle.range_collections.specs.declared.range_set_range.RangeSetRange.{RangeSetRange}
use Rattle.range_collections.specs.declared.range_set_range.RangeSetRange.TheVariants.{Range, RangeFrom}

-- a byte of a written range
abbrev IsWord : ℕ → Type 0
IsWord b = (b < 128) × (is_whitespace b ≡ false) × ((b == 44) ≡ false)

abbrev AreWords : List ℕ → Type 0
AreWords = AllByRecursion IsWord

ascii : (w : List ℕ) → AreWords w → IsAscii w
ascii [] h = IsAscii-nil
ascii (b ∷ bs) h = IsAscii-cons b bs h.0.0 (ascii bs h.1)

skip_word : (w : List ℕ) → AreWords w → skip_leading_whitespace w ≡ w
skip_word [] h = refl
skip_word (b ∷ bs) h = ap (λ t. cond t (skip_leading_whitespace bs) (b ∷ bs)) h.0.1

end_word : (w : List ℕ) → AreWords w → drop_trailing_whitespace w ≡ w
end_word [] h = refl
end_word (b ∷ bs) h =
    ap (λ t. cond (t && (length (drop_trailing_whitespace bs) == 0)) [] (b ∷ drop_trailing_whitespace bs)) h.0.1 ∙ ap (λ cs. b ∷ cs) (end_word bs h.1)

start_trimmed : (w : List ℕ) → AreWords w → trim_start w ≡ w
unfolding trim_start
start_trimmed w h = ap (λ cs. encode_utf8_all (skip_leading_whitespace cs)) (chars-IsAscii w (ascii w h)) ∙ ap encode_utf8_all (skip_word w h) ∙ encodes-IsAscii w (ascii w h)

blank_trimmed : (w : List ℕ) → AreWords w → trim_start (32 ∷ w) ≡ w
unfolding trim_start
blank_trimmed w h =
    ap (λ cs. encode_utf8_all (skip_leading_whitespace cs)) (chars-IsAscii (32 ∷ w) (IsAscii-cons 32 w (omega arith) (ascii w h)))
    ∙ ap encode_utf8_all (skip_word w h) ∙ encodes-IsAscii w (ascii w h)

end_trimmed : (w : List ℕ) → AreWords w → trim_end w ≡ w
unfolding trim_end
end_trimmed w h = ap (λ cs. encode_utf8_all (drop_trailing_whitespace cs)) (chars-IsAscii w (ascii w h)) ∙ ap encode_utf8_all (end_word w h) ∙ encodes-IsAscii w (ascii w h)

trim_word : (w : List ℕ) → AreWords w → trim w ≡ w
trim_word w h = ap trim_end (start_trimmed w h) ∙ end_trimmed w h

trim_blank : (w : List ℕ) → AreWords w → trim (32 ∷ w) ≡ w
trim_blank w h = ap trim_end (blank_trimmed w h) ∙ end_trimmed w h

append_words : (xs ys : List ℕ) → AreWords xs → AreWords ys → AreWords (xs ++ ys)
append_words [] ys h k = k
append_words (x ∷ xs) ys h k = (h.0, append_words xs ys h.1 k)

plain_words : (xs : List ℕ) → AllByRecursion IsPlain xs → AreWords xs
plain_words [] h = h
plain_words (x ∷ xs) h = ((h.0.0, h.0.1, h.0.2), plain_words xs h.1)

no_comma : (w : List ℕ) → AreWords w → All (λ b. (b == 44) ≡ false) w
no_comma [] h = All-nil (λ b. (b == 44) ≡ false)
no_comma (b ∷ bs) h = All-cons (λ b. (b == 44) ≡ false) b bs h.0.2 (no_comma bs h.1)

add_one : (n : ℕ) → 1 + n ≡ suc n
add_one n = omega arith

suc_add_one : (n : ℕ) → suc n + 1 ≡ suc (n + 1)
suc_add_one n = omega arith

at_dot : (xs ys : List ℕ) → AllByRecursion IsPlain xs → position_or_len (λ b. b == 46) (xs ++ 46 ∷ ys) ≡ length xs
at_dot [] ys h = refl
at_dot (x ∷ xs) ys h =
    ap (λ t. cond (not t) (1 + position_or_len (λ b. b == 46) (xs ++ 46 ∷ ys)) 0) h.0.3 ∙ ap (λ n. 1 + n) (at_dot xs ys h.1) ∙ add_one (length xs)

take_front : (xs ys : List ℕ) → take (length xs) (xs ++ ys) ≡ xs
take_front [] ys = refl
take_front (x ∷ xs) ys = ap (λ zs. x ∷ zs) (take_front xs ys)

drop_past : (xs : List ℕ) (y : ℕ) (ys : List ℕ) → drop (length xs + 1) (xs ++ y ∷ ys) ≡ ys
drop_past [] y ys = refl
drop_past (x ∷ xs) y ys = ap (λ n. drop n (x ∷ (xs ++ y ∷ ys))) (suc_add_one (length xs)) ∙ drop_past xs y ys

module _ {K : Type 0} (number : List ℕ → Option K) (digits : K → List ℕ) (nothing : number [] ≡ None) where
  abbrev ReadsBack : RangeSetRange K → Type 0
  ReadsBack r = AllEnds (IsReadBack number digits) r

  with_dots : (x : K) (rest : List ℕ) → IsReadBack number digits x → range_of number (digits x ++ 46 ∷ 46 ∷ rest) ≡ range_up_to number x rest
  with_dots x rest h =
      let word : List ℕ = digits x ++ 46 ∷ 46 ∷ rest in
      let front : before_first (λ b. b == 46) word ≡ digits x = ap (λ n. take n word) (at_dot (digits x) (46 ∷ rest) h.plain) ∙ take_front (digits x) (46 ∷ 46 ∷ rest) in
      let back : after_first (λ b. b == 46) word ≡ 46 ∷ rest = ap (λ n. drop (n + 1) word) (at_dot (digits x) (46 ∷ rest) h.plain) ∙ drop_past (digits x) 46 (46 ∷ rest) in
      ap₂ (λ f b. option_and_then (λ start. range_after_dot number start b) (number f)) front back
      ∙ ap (option_and_then (λ start. range_after_dot number start (46 ∷ rest))) h.read

  end_read : (x y : K) (text : List ℕ) → number text ≡ Some y → range_up_to number x text ≡ Some (Range (record { start = x; end = y }))
  end_read x y [] h =
      let e : None ≡ Some y = sym nothing ∙ h in cc
  end_read x y (c ∷ cs) h = ap (option_map (λ end. Range (record { start = x; end = end }))) h

  range_read : (r : RangeSetRange K) → ReadsBack r → range_of number (range_text digits r) ≡ Some r
  range_read (Range r) h = with_dots r.start (digits r.end) h.0 ∙ end_read r.start r.end (digits r.end) h.1.read
  range_read (RangeFrom r) h = with_dots r.start [] h

  range_words : (r : RangeSetRange K) → ReadsBack r → AreWords (range_text digits r)
  range_words (Range r) h =
      append_words (digits r.start) (46 ∷ 46 ∷ digits r.end) (plain_words (digits r.start) h.0.plain)
      ((omega arith, refl, refl), ((omega arith, refl, refl), plain_words (digits r.end) h.1.plain))
  range_words (RangeFrom r) h =
      append_words (digits r.start) (46 ∷ 46 ∷ []) (plain_words (digits r.start) h.plain) ((omega arith, refl, refl), ((omega arith, refl, refl), tt))

  first_read : (r : RangeSetRange K) → ReadsBack r → range_in number (range_text digits r) ≡ Some r
  unfolding range_in
  first_read r h = ap (range_of number) (trim_word (range_text digits r) (range_words r h)) ∙ range_read r h

  later_read : (r : RangeSetRange K) → ReadsBack r → range_in number (32 ∷ range_text digits r) ≡ Some r
  unfolding range_in
  later_read r h = ap (range_of number) (trim_blank (range_text digits r) (range_words r h)) ∙ range_read r h

  parts_from : (w : List ℕ) (rs : List (RangeSetRange K)) → All (λ b. (b == 44) ≡ false) w → AllByRecursion ReadsBack rs →
      parts_of (w ++ others_text digits rs) ≡ w ∷ map (λ r. 32 ∷ range_text digits r) rs
  parts_from w [] none h = ap (slice_split (λ b. b == 44)) (append-nil w) ∙ slice_split_none (λ b. b == 44) w none
  parts_from w (r ∷ rs) none h =
      slice_split_at (λ b. b == 44) w 44 ((32 ∷ range_text digits r) ++ others_text digits rs) none refl
      ∙ ap (λ ps. w ∷ ps)
      (parts_from (32 ∷ range_text digits r) rs (All-cons (λ b. (b == 44) ≡ false) 32 (range_text digits r) refl (no_comma (range_text digits r) (range_words r h.0))) h.1)

  later_ranges : (rs : List (RangeSetRange K)) → AllByRecursion ReadsBack rs → filter_map (range_in number) (map (λ r. 32 ∷ range_text digits r) rs) ≡ rs
  later_ranges [] h = refl
  later_ranges (r ∷ rs) h = ap₂ cons_option (later_read r h.0) (later_ranges rs h.1)

  later_all : (rs : List (RangeSetRange K)) → AllByRecursion ReadsBack rs → list_all (λ part. is_some (range_in number part)) (map (λ r. 32 ∷ range_text digits r) rs) ≡ true
  later_all [] h = refl
  later_all (r ∷ rs) h = ap₂ (λ o t. is_some o && t) (later_read r h.0) (later_all rs h.1)

  nothing_in : range_in number [] ≡ None
  unfolding range_in
  nothing_in = ap (range_of number) (trim_word [] tt) ∙ ap (option_and_then (λ start. range_after_dot number start [])) nothing

  ranges_read : (rs : List (RangeSetRange K)) → AllByRecursion ReadsBack rs → ranges_in number (ranges_text digits rs) ≡ rs
  unfolding ranges_in
  ranges_read [] h = ap (λ o. cons_option o []) nothing_in
  ranges_read (r ∷ rs) h =
      ap (filter_map (range_in number)) (parts_from (range_text digits r) rs (no_comma (range_text digits r) (range_words r h.0)) h.1)
      ∙ ap₂ cons_option (first_read r h.0) (later_ranges rs h.1)

  or_true : (b : Bool) → (b || true) ≡ true
  or_true true = refl
  or_true false = refl

  are_ranges : (rs : List (RangeSetRange K)) → AllByRecursion ReadsBack rs → is_ranges number (ranges_text digits rs) ≡ true
  unfolding is_ranges
  are_ranges [] h = ap (λ w. (length w == 0) || list_all (λ part. is_some (range_in number part)) (parts_of [])) (trim_word [] tt)
  are_ranges (r ∷ rs) h =
      let text : List ℕ = range_text digits r ++ others_text digits rs in
      ap (λ t. (length (trim text) == 0) || t)
      (ap (list_all (λ part. is_some (range_in number part))) (parts_from (range_text digits r) rs (no_comma (range_text digits r) (range_words r h.0)) h.1)
      ∙ ap₂ (λ o t. is_some o && t) (first_read r h.0) (later_all rs h.1))
      ∙ or_true (length (trim text) == 0)

  of_items : (items : List K) → All (IsReadBack number digits) items → AllByRecursion ReadsBack (ranges_of items)
  of_items [] h = tt
  of_items (x ∷ []) h = (All-head (IsReadBack number digits) x [] h, tt)
  of_items (x ∷ y ∷ rest) h =
      let later : All (IsReadBack number digits) (y ∷ rest) = All-tail (IsReadBack number digits) x (y ∷ rest) h in
      ((All-head (IsReadBack number digits) x (y ∷ rest) h, All-head (IsReadBack number digits) y rest later), of_items rest (All-tail (IsReadBack number digits) y rest later))

  pub written_ranges_read : (items : List K) → All (IsReadBack number digits) items → ranges_in number (ranges_text digits (ranges_of items)) ≡ ranges_of items
  written_ranges_read items h = ranges_read (ranges_of items) (of_items items h)

  pub written_are_ranges : (items : List K) → All (IsReadBack number digits) items → is_ranges number (ranges_text digits (ranges_of items)) ≡ true
  written_are_ranges items h = are_ranges (ranges_of items) (of_items items h)

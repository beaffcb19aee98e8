-- Ranges that a text writes, in any order, as a set of whole numbers is written: `0..10, 20..`.
--     unsigned_number k text      the number of k bits that a text writes, if it writes one
--     signed_number k text        the same with a sign, of k bits besides it
--     any_number text             the same, of any size
--     IsReadBack number digits x  what is written of the number is read back
--     parts_of text               what stands between the commas
--     range_in number part        the range that a part writes between blanks, where `number` reads a number
--     is_ranges number text       blanks alone, or a range in each part
--     ranges_in number text       the ranges
use Rattle.std.specs.Prelude.{◌≡◌, ℕ, ◌<◌, false, ◌^◌, ◌==◌, nat_lt, Bool, cond, ◌&&◌, ◌||◌, ℤ, pos, negsuc, List, [], ◌∷◌, length, Option, Some, None}
use Rattle.std.specs.Char.{is_whitespace}
use Rattle.std.specs.List.{AllByRecursion, slice_split, list_all, filter_map, before_first, after_first}
use Rattle.std.specs.Option.{is_some, option_map, option_and_then}
use Rattle.std.specs.Str.{trim, all_ascii_digits}
use Rattle.std.specs.Str.Parse.{without_leading_plus, without_leading_sign, digits_value, signed_digits_value}
use Rattle.range_collections.specs.declared.range_set_range.RangeSetRange.{RangeSetRange}
use Rattle.range_collections.specs.declared.range_set_range.RangeSetRange.TheVariants.{Range, RangeFrom}

-- one digit or more
abbrev pub is_numeral : List ℕ → Bool
is_numeral digits = nat_lt 0 (length digits) && all_ascii_digits digits

-- the number of k bits that a text writes in decimal digits, which may follow a plus
unfoldable pub unsigned_number : ℕ → List ℕ → Option ℕ
unsigned_number k text =
    cond (is_numeral (without_leading_plus text) && nat_lt (digits_value 10 (without_leading_plus text)) (2 ^ k)) (Some (digits_value 10 (without_leading_plus text))) None

-- the number is at least -(2 ^ k) and below 2 ^ k
abbrev pub is_within : ℕ → ℤ → Bool
is_within k (pos n) = nat_lt n (2 ^ k)
is_within k (negsuc n) = nat_lt n (2 ^ k)

-- the number at least -(2 ^ k) and below 2 ^ k that a text writes in decimal digits, which may
-- follow a sign
unfoldable pub signed_number : ℕ → List ℕ → Option ℤ
signed_number k text =
    cond (is_numeral (without_leading_sign text) && is_within k (signed_digits_value 10 text)) (Some (signed_digits_value 10 text)) None

-- the number of any size that a text writes in decimal digits, which may follow a sign
unfoldable pub any_number : List ℕ → Option ℤ
any_number text = cond (is_numeral (without_leading_sign text)) (Some (signed_digits_value 10 text)) None

-- the byte is ASCII, and no white space, comma or dot
abbrev pub IsPlain : ℕ → Type 0
IsPlain b = (b < 128) × (is_whitespace b ≡ false) × ((b == 44) ≡ false) × ((b == 46) ≡ false)

-- the number is written in such bytes, and read back from them
pub record IsReadBack {K : Type 0} (number : List ℕ → Option K) (digits : K → List ℕ) (x : K) : Type 0 where
  pub plain : AllByRecursion IsPlain (digits x)
  pub read : number (digits x) ≡ Some x

-- what stands between the commas
abbrev pub parts_of : List ℕ → List (List ℕ)
parts_of text = slice_split (λ b. b == 44) text

module _ {K : Type 0} (number : List ℕ → Option K) where
  -- the range from a start on, where this is written after its two dots: nothing, or an end
  abbrev pub range_up_to : K → List ℕ → Option (RangeSetRange K)
  range_up_to start [] = Some (RangeFrom (record { start = start }))
  range_up_to start (c ∷ cs) = option_map (λ end. Range (record { start = start; end = end })) (number (c ∷ cs))

  -- the same, where this is written after the first of them
  abbrev pub range_after_dot : K → List ℕ → Option (RangeSetRange K)
  range_after_dot start [] = None
  range_after_dot start (c ∷ cs) = cond (c == 46) (range_up_to start cs) None

  -- the range that is written: a start, two dots, and an end or nothing
  abbrev pub range_of : List ℕ → Option (RangeSetRange K)
  range_of word = option_and_then (λ start. range_after_dot start (after_first (λ b. b == 46) word)) (number (before_first (λ b. b == 46) word))

  -- the range that is written between blanks
  unfoldable pub range_in : List ℕ → Option (RangeSetRange K)
  range_in part = range_of (trim part)

  -- blanks alone, or ranges with commas between them
  unfoldable pub is_ranges : List ℕ → Bool
  is_ranges text = (length (trim text) == 0) || list_all (λ part. is_some (range_in part)) (parts_of text)

  -- the ranges, in order
  unfoldable pub ranges_in : List ℕ → List (RangeSetRange K)
  ranges_in text = filter_map range_in (parts_of text)

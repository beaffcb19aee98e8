-- Why a text is not read as a set, and what is written of it.
--     BeginsRanges front          some text of ranges, with numbers of any size, begins with the front
--     MayFollow front c           a character may follow the front
--     IsLongestFront text at      the longest front of the text with which some text of ranges begins
--     IsExpected front expected   it is what may follow the front
--     IsFaultIn text error        a fault of the text itself, at its place
use Rattle.std.specs.Prelude.{◌≡◌, ℕ, ◌<◌, ◌≤◌, true, false, List, [], ◌∷◌, length, take, ◌++◌, codes, decimal}
use Rattle.std.specs.Str.{IsUtf8, byte}
use Rattle.range_collections.specs.Reading.{any_number, is_ranges}
use Rattle.range_collections.specs.declared.parse.Expected.{Expected}
use Rattle.range_collections.specs.declared.parse.Expected.TheVariants.{Number, Dot, Comma}
use Rattle.range_collections.specs.declared.parse.ParseError.{ParseError}
use Rattle.range_collections.specs.declared.parse.ParseError.TheVariants.{Malformed, OutOfRange, OutOfMemory}

-- some text of ranges, with numbers of any size, begins with the front, which is a text itself
pub record BeginsRanges (front : List ℕ) : Type 0 where
  pub is_text : IsUtf8 front
  pub rest : List ℕ
  pub rest_is_text : IsUtf8 rest
  pub are_ranges : is_ranges any_number (front ++ rest) ≡ true

-- some text of ranges goes on with the character after the front
abbrev pub MayFollow : List ℕ → ℕ → Type 0
MayFollow front c = BeginsRanges (front ++ c ∷ [])

-- the first `at` bytes are the longest front of the text with which some text of ranges begins
pub record IsLongestFront (text : List ℕ) (at : ℕ) : Type 0 where
  pub within : at ≤ length text
  pub begins : BeginsRanges (take at text)
  pub longest : (n : ℕ) → at < n → n ≤ length text → ¬ (BeginsRanges (take n text))

-- what may follow a front. Number: a digit, no dot, and a comma only where a number may begin. Dot:
-- a dot. Comma: a comma or the end, where no number may begin
abbrev pub IsExpected : List ℕ → Expected → Type 0
IsExpected front Number = MayFollow front (byte "0") × ¬ (MayFollow front (byte ".")) × (MayFollow front (byte ",") → MayFollow front (byte "+"))
IsExpected front Dot = MayFollow front (byte ".")
IsExpected front Comma = MayFollow front (byte ",") × (is_ranges any_number front ≡ true) × ¬ (MayFollow front (byte "+"))

-- the text is none of ranges, with numbers of any size, and the error names the end of the longest
-- front that begins one, and what was expected there; or the text is one of ranges, with numbers of
-- any size
abbrev pub IsFaultIn : List ℕ → ParseError → Type 0
IsFaultIn text (Malformed at expected) = (is_ranges any_number text ≡ false) × IsLongestFront text at × IsExpected (take at text) expected
IsFaultIn text OutOfRange = is_ranges any_number text ≡ true
IsFaultIn text OutOfMemory = ⊥

abbrev pub expected_text : Expected → List ℕ
expected_text Number = codes "a number"
expected_text Dot = codes "a dot"
expected_text Comma = codes "a comma or the end"

-- one sentence, with the place where there is one
abbrev pub parse_error_text : ParseError → List ℕ
parse_error_text (Malformed at expected) = expected_text expected ++ (codes " was expected at byte " ++ decimal at)
parse_error_text OutOfRange = codes "a number is past those of its type"
parse_error_text OutOfMemory = codes "memory ran out"

-- What a line asks.
--     number_of word         the number that a word writes, if it writes one
--     words_of line          the words of a line
--     asked_by words         what words ask, if they ask something
--     request_of line        what a line asks, if it asks something
use Rattle.std.specs.Prelude.{ℕ, ◌^◌, nat_le, nat_lt, ◌==◌, ◌&&◌, if◌then◌else◌, Bool, List, [], ◌∷◌, length, Option, Some, None, codes, bytes_eq}
use Rattle.std.specs.Option.{option_map, option_and_then}
use Rattle.std.specs.List.{slice_split}
use Rattle.std.specs.Str.{all_ascii_digits, is_utf8}
use Rattle.std.specs.Str.Parse.{digits_value}
use Rattle.std.specs.Borrow.{Bor}
use Rattle.std.specs.declared.ops.Range.{Range}
use Rattle.range_tracker.specs.declared.tracker.Command.TheVariants.{Add, Forget}
use Rattle.range_track_answers.specs.declared.request.Request.{Request}
use Rattle.range_track_answers.specs.declared.request.Request.TheVariants.{Do, Has, Missing, Ranges}

-- 1 to 20 decimal digits
abbrev pub is_numeral : List ℕ → Bool
is_numeral word = nat_le 1 (length word) && nat_le (length word) 20 && all_ascii_digits word

-- the number that the word writes, if it is a numeral within u64
unfoldable pub number_of : List ℕ → Option ℕ
number_of word =
    if is_numeral word && nat_lt (digits_value 10 word) (2 ^ 64)
    then Some (digits_value 10 word) else None

-- the parts of the line between its blanks
abbrev pub words_of : List ℕ → List (List ℕ)
words_of line = slice_split (λ b. b == 32) line

-- the words after a blank, if there is one
abbrev pub words_after : Option (Bor (List ℕ)) → List (List ℕ)
words_after None = []
words_after (Some rest) = words_of rest.now

-- what a word asks of a range, if it asks something
unfoldable pub asked_of_range : List ℕ → Range ℕ → Option Request
asked_of_range word range =
    if bytes_eq word (codes "+") then Some (Do (Add range))
    else if bytes_eq word (codes "-") then Some (Do (Forget range))
    else if bytes_eq word (codes "?") then Some (Has range)
    else None

-- the range from one number to another, if both words write one
abbrev pub range_of : List ℕ → List ℕ → Option (Range ℕ)
range_of a b =
    option_and_then (λ start. option_map (λ end. record { start = start; end = end }) (number_of b))
    (number_of a)

-- what the words ask, if they ask something: `ranges`, `missing N`, and `+`, `-` or `?` with two
-- numbers
unfoldable pub asked_by : List (List ℕ) → Option Request
asked_by (word ∷ []) = if bytes_eq word (codes "ranges") then Some Ranges else None
asked_by (word ∷ n ∷ []) =
    if bytes_eq word (codes "missing") then option_map Missing (number_of n) else None
asked_by (word ∷ a ∷ b ∷ []) = option_and_then (asked_of_range word) (range_of a b)
asked_by _ = None

-- what the line asks, if it is a text of at most 64 bytes that asks something
unfoldable pub request_of : List ℕ → Option Request
request_of line = if nat_le (length line) 64 && is_utf8 line then asked_by (words_of line) else None

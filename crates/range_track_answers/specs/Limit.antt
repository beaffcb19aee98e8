-- How the program is called, and how it ends.
--     limit_of words         the limit that the arguments ask for, if they ask for one
--     code_of status         the number that the program ends with
use Rattle.std.specs.Prelude.{ℕ, ◌-◌, ◌^◌, nat_le, if◌then◌else◌, List, [], ◌∷◌, map, Option, Some, None, String, string_bytes}
use Rattle.std.specs.Option.{option_and_then}
use Rattle.range_track_answers.specs.Requests.{number_of}
use Rattle.range_track_answers.specs.declared.status.Status.{Status}
use Rattle.range_track_answers.specs.declared.status.Status.TheVariants.{Ended, NoMemory, BadLimit, Failed}

-- the bytes of each word
abbrev pub texts : {A : Type 0} → List (String A) → List (List ℕ)
texts words = map string_bytes words

-- the number, if it leaves room for two more
abbrev pub within_bounds : ℕ → Option ℕ
within_bounds n = if nat_le n (2 ^ 64 - 3) then Some n else None

-- no word asks for 1,000,000, one for the number that it writes
unfoldable pub limit_of : List (List ℕ) → Option ℕ
limit_of [] = Some 1000000
limit_of (word ∷ []) = option_and_then within_bounds (number_of word)
limit_of (word ∷ another ∷ more) = None

-- the number that the program ends with
abbrev pub code_of : Status → ℕ
code_of Ended = 0
code_of NoMemory = 1
code_of BadLimit = 2
code_of Failed = 5

-- The lines of a text, and one of them being read.
--     lines_of text                   the lines of a text
--     IsLineRead text kept ending rest   what a read of one line takes of a text
use Rattle.std.specs.Prelude.{◌≡◌, ◌≢◌, ℕ, ◌==◌, if◌then◌else◌, List, [], ◌∷◌, ◌++◌, take, All, Option, Some, None}
use Rattle.range_track_answers.specs.declared.line.Ending.{Ending}
use Rattle.range_track_answers.specs.declared.line.Ending.TheVariants.{Newline, Input}

-- the byte before the first line
abbrev pub onto_first_line : ℕ → List (List ℕ) → List (List ℕ)
onto_first_line b [] = (b ∷ []) ∷ []
onto_first_line b (line ∷ lines) = (b ∷ line) ∷ lines

-- what stands before each newline, and what stands after the last one if that isn't empty
unfoldable pub lines_of : List ℕ → List (List ℕ)
lines_of [] = []
lines_of (b ∷ bs) = if b == 10 then [] ∷ lines_of bs else onto_first_line b (lines_of bs)

-- no byte of the line is a newline
abbrev pub IsLine : List ℕ → Type 0
IsLine line = All (λ b. b ≢ 10) line

-- the first line of the text was read, with its newline or up to the end of the text, and its first
-- 65 bytes are kept
abbrev pub IsLineRead : List ℕ → List ℕ → Ending → Option (List ℕ) → Type 0
IsLineRead text kept Newline None = ⊥
IsLineRead text kept Newline (Some rest) =
    (line : List ℕ) × IsLine line × (text ≡ line ++ 10 ∷ rest) × (kept ≡ take 65 line)
IsLineRead text kept Input rest = IsLine text × (kept ≡ take 65 text)

-- A text in a buffer of the caller's, or a list of anything else.
--     AnswersText text old new n      the text has n bytes, and stands in the buffer where that has room
--     PutsText len text old new n     it stands after the first `len` bytes, where the buffer has room; private contracts use this word
use Rattle.std.specs.Prelude.{◌≡◌, ℕ, ◌+◌, ◌<◌, ◌≤◌, List, length, take, drop, ◌++◌}

-- n is the length of the text. Where the buffer is long enough it begins with the text, and after
-- it is as it was; else all of it is as it was
pub record AnswersText {K : Type 0} (text old new : List K) (n : ℕ) : Type 0 where
  pub counted : n ≡ length text
  pub written : n ≤ length old → new ≡ text ++ drop n old
  pub unchanged : length old < n → new ≡ old

-- n is where the text ends that begins at `len`. Where the buffer is long enough it has the text
-- there, and around it is as it was
pub record PutsText {K : Type 0} (len : ℕ) (text old new : List K) (n : ℕ) : Type 0 where
  pub counted : n ≡ len + length text
  pub written : n ≤ length old → new ≡ take len old ++ (text ++ drop n old)

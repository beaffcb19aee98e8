-- Texts of ranges, `0..10, 20..`, read into a buffer of the caller's.
--     numbers_in number text              how many numbers the text has, where it is one of ranges
--     TellsText number text status told   whether it is one, and what is told of it
use Rattle.std.specs.Prelude.{◌≡◌, ℕ, ◌≤◌, true, false, List, Option, length}
use Rattle.std.specs.List.{flat_map}
use Rattle.std.specs.Str.{IsUtf8, IsValidUpTo}
use Rattle.range_collections.specs.ParseErrors.{IsLongestFront}
use Rattle.range_collections.specs.Ranges.{range_ends}
use Rattle.range_collections.specs.Reading.{any_number, is_ranges, ranges_in}

-- two for each range with an end, and one for each without
abbrev pub numbers_in : {K : Type 0} → (List ℕ → Option K) → List ℕ → ℕ
numbers_in number text = length (flat_map range_ends (ranges_in number text))

-- 0: it is a text of ranges, and told is how many numbers it has; 1: it is none, with numbers of
-- any size, and told is the end of the longest front that begins one; 2: it is one but for a number
-- that the type doesn't hold; 3: it isn't UTF-8, and told is the first byte that isn't
pub record TellsText {K : Type 0} (number : List ℕ → Option K) (text : List ℕ) (status told : ℕ) : Type 0 where
  pub one_of_four : status ≤ 3
  pub ranges : status ≡ 0 → IsUtf8 text × (is_ranges number text ≡ true) × (told ≡ numbers_in number text)
  pub malformed : status ≡ 1 → IsUtf8 text × (is_ranges number text ≡ false) × (is_ranges any_number text ≡ false) × IsLongestFront text told
  pub out_of_range : status ≡ 2 → IsUtf8 text × (is_ranges number text ≡ false) × (is_ranges any_number text ≡ true)
  pub not_text : status ≡ 3 → ¬ (IsUtf8 text) × IsValidUpTo text told

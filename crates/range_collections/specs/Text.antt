-- The text of ranges and sets, where `digits` gives the bytes of an element.
use Rattle.std.specs.Prelude.{◌≡◌, ℕ, List, [], ◌∷◌, ◌++◌, All, Option, Some, None, cond, codes}
use Rattle.std.specs.Char.{is_ascii}
use Rattle.std.specs.Fmt.{debug_escape}
use Rattle.std.specs.List.{flat_map, list_all}
use Rattle.range_collections.specs.declared.range_set_range.RangeSetRange.{RangeSetRange}
use Rattle.range_collections.specs.declared.range_set_range.RangeSetRange.TheVariants.{Range, RangeFrom}
use Rattle.range_collections.specs.Ranges.{ranges_of, AllEnds}

module _ {K : Type 0} (digits : K → List ℕ) where
  -- `0..10`, or `20..` without an end
  abbrev pub range_text : RangeSetRange K → List ℕ
  range_text (Range r) = digits r.start ++ (codes ".." ++ digits r.end)
  range_text (RangeFrom r) = digits r.start ++ codes ".."

  -- ranges that follow another, each after a comma and a space
  abbrev pub others_text : List (RangeSetRange K) → List ℕ
  others_text rs = flat_map (λ r. codes ", " ++ range_text r) rs

  -- ranges with a comma and a space between them
  abbrev pub ranges_text : List (RangeSetRange K) → List ℕ
  ranges_text [] = []
  ranges_text (r ∷ rs) = range_text r ++ others_text rs

  -- `RangeSet{0..10, 20..}`
  abbrev pub set_text : List K → List ℕ
  set_text items = codes "RangeSet{" ++ (ranges_text (ranges_of items) ++ codes "}")

-- an ASCII character between quotes, as Rust prints it
abbrev pub quoted : ℕ → List ℕ
quoted c = 39 ∷ (debug_escape 39 c ++ 39 ∷ [])

-- the text, if all of these characters are ASCII
abbrev pub if_ascii : List ℕ → List ℕ → Option (List ℕ)
if_ascii characters text = cond (list_all is_ascii characters) (Some text) None

module _ {K : Type 0} (output : K → Option (List ℕ)) (text : K → List ℕ) where
  -- what is printed of x is known, and is this text
  abbrev pub IsText : K → Type 0
  IsText x = output x ≡ Some (text x)

  -- so it is at each end of the ranges
  abbrev pub AreTexts : List (RangeSetRange K) → Type 0
  AreTexts ranges = All (AllEnds IsText) ranges

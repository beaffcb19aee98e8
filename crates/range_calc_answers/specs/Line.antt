-- How an answer is written.
--     list_text items        a list as one word
--     array_text items       a list as a JSON array
--     truth_text truth       `true` or `false`
use Rattle.std.specs.Prelude.{ℕ, ℤ, Bool, true, false, List, [], ◌∷◌, ◌++◌, codes}
use Rattle.std.specs.Fmt.{signed_decimal}
use Rattle.std.specs.List.{join_by}

-- the numbers in decimal joined by commas
abbrev pub numbers_text : List ℤ → List ℕ
numbers_text zs = join_by signed_decimal (codes ",") zs

-- `-` for the empty list, else its numbers
unfoldable pub list_text : List ℤ → List ℕ
list_text [] = codes "-"
list_text (z ∷ zs) = numbers_text (z ∷ zs)

-- the numbers between brackets
unfoldable pub array_text : List ℤ → List ℕ
array_text zs = codes "[" ++ (numbers_text zs ++ codes "]")

abbrev pub truth_text : Bool → List ℕ
truth_text true = codes "true"
truth_text false = codes "false"

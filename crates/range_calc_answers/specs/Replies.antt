-- What is answered to what is asked.
--     IsListLine f a b line          the line is the list that a table makes of two
--     IsTestLine R a b line          the line says whether a relation holds of two lists
--     IsNegationLine a line          the line is the list of the numbers of i64 that aren't members
--     IsReply asked line             the line answers what is asked
--     IsSorted asked                 each list of it is strictly sorted
--     IsReadable asked               its JSON text, if it has one, holds a list
use Rattle.std.specs.Prelude.{◌≡◌, ◌↔◌, ℕ, ℤ, Bool, IsTrue, List, ◌∷◌, ◌++◌, Some, All, FitsSigned}
use Rattle.std.specs.Int.{w64}
use Rattle.std.specs.Fmt.{signed_decimal}
use Rattle.std.specs.Ordering.{int_cmp}
use Rattle.serde_json.specs.Data.{Data}
use Rattle.serde_json.specs.Read.{read}
use Rattle.range_merge.specs.Boundaries.{IsAscending, member}
use Rattle.range_merge.specs.Connective.{Table, Means, union_table, intersection_table, difference_table, symmetric_difference_table}
use Rattle.range_collections.specs.Json.{IsReadingOf}
use Rattle.range_collections.specs.Sets.{IsDisjoint, IsSubset}
use Rattle.range_collections.specs.Split.{split_left, split_right}
use Rattle.range_collections.specs.Text.{set_text}
use Rattle.range_collections.specs.Values.{Negates}
use Rattle.range_calc_answers.specs.Words.{Asked, of_list, of_two_lists, of_list_and_number, of_json}
use Rattle.range_calc_answers.specs.declared.request.TwoLists.TheVariants.{Union, Intersection, Difference, SymmetricDifference, Disjoint, Subset, Superset}
use Rattle.range_calc_answers.specs.declared.request.ListAndNumber.TheVariants.{Contains, Split}
use Rattle.range_calc_answers.specs.declared.request.OneList.TheVariants.{Not, Show, ToJson}
use Rattle.range_calc_answers.specs.Line.{list_text, array_text, truth_text}

-- the line is the text of the one list that the table makes of the two
abbrev pub IsListLine : Table → List ℤ → List ℤ → List ℕ → Type 0
IsListLine f a b line = (items : List ℤ) × Means int_cmp f items a b × (line ≡ list_text items)

-- the line is `true` where the relation holds of the two lists, and else `false`
abbrev pub IsTestLine : (List ℤ → List ℤ → Type 0) → List ℤ → List ℤ → List ℕ → Type 0
IsTestLine R a b line = (truth : Bool) × (IsTrue truth ↔ R a b) × (line ≡ truth_text truth)

-- the line is the text of the one list of numbers of i64 whose members among these are no members
-- of a
abbrev pub IsNegationLine : List ℤ → List ℕ → Type 0
IsNegationLine a line =
    (items : List ℤ) × All (FitsSigned w64) items × Negates int_cmp (FitsSigned w64) items a
    × (line ≡ list_text items)

-- the JSON text is an array of whole numbers of i64, and the items are the distinct ones in order
abbrev pub HoldsItems : List ℕ → List ℤ → Type 0
HoldsItems text items = (value : Data) × (read text ≡ Some value) × IsReadingOf value items

-- the line answers what is asked
abbrev pub IsReply : Asked → List ℕ → Type 0
IsReply (of_two_lists Union a b) line = IsListLine union_table a b line
IsReply (of_two_lists Intersection a b) line = IsListLine intersection_table a b line
IsReply (of_two_lists Difference a b) line = IsListLine difference_table a b line
IsReply (of_two_lists SymmetricDifference a b) line = IsListLine symmetric_difference_table a b line
IsReply (of_two_lists Disjoint a b) line = IsTestLine (IsDisjoint int_cmp) a b line
IsReply (of_two_lists Subset a b) line = IsTestLine (IsSubset int_cmp) a b line
IsReply (of_two_lists Superset a b) line = IsTestLine (IsSubset int_cmp) b a line
IsReply (of_list_and_number Contains a n) line = line ≡ truth_text (member int_cmp a n)
IsReply (of_list_and_number Split a n) line =
    line ≡ list_text (split_left int_cmp a n) ++ 32 ∷ list_text (split_right int_cmp a n)
IsReply (of_list Not a) line = IsNegationLine a line
IsReply (of_list Show a) line = line ≡ set_text signed_decimal a
IsReply (of_list ToJson a) line = line ≡ array_text a
IsReply (of_json text) line = (items : List ℤ) × HoldsItems text items × (line ≡ list_text items)

-- each list of it is strictly sorted
abbrev pub IsSorted : Asked → Type 0
IsSorted (of_list command a) = IsAscending int_cmp a
IsSorted (of_two_lists command a b) = IsAscending int_cmp a × IsAscending int_cmp b
IsSorted (of_list_and_number command a n) = IsAscending int_cmp a
IsSorted (of_json text) = Unit {0}

-- the text of `json` holds a list; nothing else that is asked has such a text
abbrev pub IsReadable : Asked → Type 0
IsReadable (of_json text) = (items : List ℤ) × HoldsItems text items
IsReadable _ = Unit {0}

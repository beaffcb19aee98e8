-- What the words of a command ask for.
--     list_of word           the list that a word writes, if it writes one
--     Asked                  what can be asked
--     one_list command       the command with one list that a word names
--     two_lists command      the command with two lists that a word names
--     list_and_number ..     the command with a list and a number that a word names
--     asked_by words         what the words ask, if they ask something
use Rattle.std.specs.Prelude.{ℕ, Bool, ◌||◌, if◌then◌else◌, ℤ, List, [], ◌∷◌, map, Option, Some, None, String, string_bytes, codes}
use Rattle.std.specs.Option.{is_some, option_map, option_zip, option_and_then, option_or}
use Rattle.std.specs.List.{list_all, filter_map}
use Rattle.std.specs.Str.{bytes_eq}
use Rattle.range_collections.specs.Reading.{parts_of, signed_number}
use Rattle.range_calc_answers.specs.declared.request.TwoLists.{TwoLists}
use Rattle.range_calc_answers.specs.declared.request.TwoLists.TheVariants.{Union, Intersection, Difference, SymmetricDifference, Disjoint, Subset, Superset}
use Rattle.range_calc_answers.specs.declared.request.ListAndNumber.{ListAndNumber}
use Rattle.range_calc_answers.specs.declared.request.ListAndNumber.TheVariants.{Contains, Split}
use Rattle.range_calc_answers.specs.declared.request.OneList.{OneList}
use Rattle.range_calc_answers.specs.declared.request.OneList.TheVariants.{Not, Show, ToJson}

-- `-`, or numbers within i64 joined by commas
unfoldable pub is_list : List ℕ → Bool
is_list word =
    bytes_eq word (codes "-") || list_all (λ part. is_some (signed_number 63 part)) (parts_of word)

-- the numbers among the word's parts, in order; `-` has none
unfoldable pub numbers_of : List ℕ → List ℤ
numbers_of word = filter_map (signed_number 63) (parts_of word)

-- the list that the word writes, if it writes one
abbrev pub list_of : List ℕ → Option (List ℤ)
list_of word = if is_list word then Some (numbers_of word) else None

-- what can be asked: a command, with what it takes; of `json` its text
pub data Asked : Type 0 where
  of_list : OneList → List ℤ → Asked
  of_two_lists : TwoLists → List ℤ → List ℤ → Asked
  of_list_and_number : ListAndNumber → List ℤ → ℤ → Asked
  of_json : List ℕ → Asked

-- the command with one list that the word names
unfoldable pub one_list : List ℕ → Option OneList
one_list command =
    if bytes_eq command (codes "not") then Some Not
    else if bytes_eq command (codes "show") then Some Show
    else if bytes_eq command (codes "to_json") then Some ToJson
    else None

-- the command with two lists that the word names
unfoldable pub two_lists : List ℕ → Option TwoLists
two_lists command =
    if bytes_eq command (codes "union") then Some Union
    else if bytes_eq command (codes "intersection") then Some Intersection
    else if bytes_eq command (codes "difference") then Some Difference
    else if bytes_eq command (codes "symmetric_difference") then Some SymmetricDifference
    else if bytes_eq command (codes "disjoint") then Some Disjoint
    else if bytes_eq command (codes "subset") then Some Subset
    else if bytes_eq command (codes "superset") then Some Superset
    else None

-- the command with a list and a number that the word names
unfoldable pub list_and_number : List ℕ → Option ListAndNumber
list_and_number command =
    if bytes_eq command (codes "contains") then Some Contains
    else if bytes_eq command (codes "split") then Some Split
    else None

-- what is asked of what two words write, if both write something
abbrev pub asked_of_both : {A B : Type 0} → (A → B → Asked) → Option A → Option B → Option Asked
asked_of_both asked a b = option_map (λ both. asked both.0 both.1) (option_zip a b)

-- what the words ask, if they ask something: the text of `json` is one word, whatever it is
unfoldable pub asked_by : List (List ℕ) → Option Asked
asked_by (word ∷ a ∷ []) =
    if bytes_eq word (codes "json") then Some (of_json a)
    else option_and_then (λ command. option_map (of_list command) (list_of a)) (one_list word)
asked_by (word ∷ a ∷ b ∷ []) =
    option_or
    (option_and_then (λ command.
    asked_of_both (of_list_and_number command) (list_of a) (signed_number 63 b))
    (list_and_number word))
    (option_and_then (λ command. asked_of_both (of_two_lists command) (list_of a) (list_of b))
    (two_lists word))
asked_by _ = None

-- the words, each as its bytes
abbrev pub texts : {A : Type 0} → List (String A) → List (List ℕ)
texts words = map string_bytes words

-- Sets of whole numbers as JSON.
--     array_of numbers            the array of these numbers
--     items_in data               the items of an array
--     first_bad data              the place of the first item that is no whole number of i64
--     IsReadingOf data items      it is an array of such numbers, and the items are their distinct numbers in order
use Rattle.std.specs.Prelude.{◌≡◌, ℕ, ℤ, Bool, not, is_some, IsSome, Option, Some, option_and_then, List, [], ◌∷◌, map, position}
use Rattle.std.specs.Ordering.{int_cmp}
use Rattle.serde_json.specs.Data.{Data, null, boolean, number, string, array, object, Items, no_items, item}
use Rattle.serde_json.specs.Find.{as_array, as_i64, as_number, of_integer}
use Rattle.serde_json.specs.View.{items_of}
use Rattle.range_collections.specs.Unsorted.{AreDistinctOf}

-- a number
abbrev pub number_data : ℤ → Data
number_data z = number (of_integer z)

-- the array of these numbers
abbrev pub array_of : List ℤ → Data
array_of zs = array (items_of (map number_data zs))

-- the items, as a list
abbrev pub list_of : Items → List Data
list_of no_items = []
list_of (item d ds) = d ∷ list_of ds

-- the items of an array, and none where it is no array
abbrev pub items_in : Data → List Data
items_in null = []
items_in (boolean b) = []
items_in (number n) = []
items_in (string s) = []
items_in (array ds) = list_of ds
items_in (object ms) = []

-- the whole number of i64, where it is one
abbrev pub whole_number : Data → Option ℤ
whole_number d = option_and_then as_i64 (as_number d)

-- it is no whole number of i64
abbrev pub is_bad : Data → Bool
is_bad d = not (is_some (whole_number d))

-- the place of the first item that is no whole number of i64
abbrev pub first_bad : Data → Option ℕ
first_bad d = position is_bad (items_in d)

-- the value is an array of whole numbers, and these are the distinct ones in order
pub record IsReadingOf (d : Data) (items : List ℤ) : Type 0 where
  pub is_array : IsSome (as_array d)
  pub numbers : List ℤ
  pub reads : map whole_number (items_in d) ≡ map Some numbers
  pub distinct : AreDistinctOf int_cmp numbers items

-- What an export answers of two sets: a list that it writes, by any of the sixteen connectives.
--     connective_of n                       the connective with the answers that the number n tells
--     AreAscending order a b                both lists are strictly sorted
--     AnswersList order f a b old new n     the list that the operation f makes of a and b has n items, and stands in the buffer where that has room
use Rattle.std.specs.Prelude.{◌≡◌, ℕ, ◌≤◌, ◌/◌, List, length, take, drop}
use Rattle.std.specs.declared.cmp.Ordering.{Ordering}
use Rattle.range_collections.specs.Boundaries.{IsAscending, is_odd}
use Rattle.range_collections.specs.Changes.{changes, taken_items}
use Rattle.range_collections.specs.Connective.{Table, Means, table_of}

-- 1 stands for the left side alone, 2 for the right alone, 4 for both and 8 for neither: the
-- connective is on where the number has its summand
abbrev pub connective_of : ℕ → Table
connective_of n = table_of (is_odd (n / 8)) (is_odd n) (is_odd (n / 2)) (is_odd (n / 4))

module _ {K : Type 0} (order : K → K → Ordering) where
  -- both lists are strictly sorted
  abbrev pub AreAscending : List K → List K → Type 0
  AreAscending a b = IsAscending order a × IsAscending order b

  -- n is the length of the one list that the operation gives. Where the buffer is long enough it
  -- begins with that list, of two equal boundaries with the left's, and after the list it is as it
  -- was
  pub record AnswersList (f : Table) (a b old new : List K) (n : ℕ) : Type 0 where
    pub counted : n ≡ length (changes order f a b)
    pub means : n ≤ length old → Means order f (take n new) a b
    pub left_own_item : n ≤ length old → take n new ≡ taken_items (changes order f a b)
    pub after : n ≤ length old → drop n new ≡ drop n old

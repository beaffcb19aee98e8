-- Ranges in any order, each by two numbers, and the set of the numbers in them.
--     is_within order first last x r            x lies in the range r
--     ends_of first last ranges                 the starts and ends in turn
--     ends_and first last ranges start          the same, and then where a range starts that has no end
--     is_from order start x                     x is at or above the start, if there is one
--     IsUnionOf order first last ranges front   the front has the numbers in the ranges
--     IsUnionFrom order first last ranges from front start    the same, with all numbers from somewhere on
use Rattle.std.specs.Prelude.{◌≡◌, ◌&&◌, ◌||◌, Bool, false, List, [], ◌∷◌, ◌++◌, Option, Some, None}
use Rattle.std.specs.List.{list_any}
use Rattle.std.specs.Option.{option_to_list}
use Rattle.std.specs.Ordering.{is_le, is_lt}
use Rattle.std.specs.declared.cmp.Ordering.{Ordering}
use Rattle.range_collections.specs.Boundaries.{IsAscending, member}

-- the starts and the ends of ranges, in turn
abbrev pub ends_of : {P K : Type 0} → (P → K) → (P → K) → List P → List K
ends_of first last [] = []
ends_of first last (r ∷ rs) = first r ∷ last r ∷ ends_of first last rs

-- the same, and after them where a range starts that has no end, if there is one
abbrev pub ends_and : {P K : Type 0} → (P → K) → (P → K) → List P → Option K → List K
ends_and first last ranges start = ends_of first last ranges ++ option_to_list start

-- there is a start, and x is at or above it
abbrev pub is_from : {K : Type 0} → (K → K → Ordering) → Option K → K → Bool
is_from order None x = false
is_from order (Some start) x = is_le (order start x)

module _ {P K : Type 0} (order : K → K → Ordering) (first last : P → K) where
  -- x is at or above the range's start, and below its end
  abbrev pub is_within : K → P → Bool
  is_within x r = is_le (order (first r) x) && is_lt (order x (last r))

  -- the ends of the front are the boundaries of the set of the numbers that some range holds
  pub record IsUnionOf (ranges front : List P) : Type 0 where
    pub sorted : IsAscending order (ends_of first last front)
    pub members : (x : K) →
        member order (ends_of first last front) x ≡ list_any (is_within x) ranges

  -- the ends of the front, and then the start, are the boundaries of the set of the numbers that
  -- some range holds or that are at or above `from`
  pub record IsUnionFrom (ranges : List P) (from : Option K) (front : List P)
      (start : Option K) : Type 0 where
    pub sorted : IsAscending order (ends_and first last front start)
    pub members : (x : K) → member order (ends_and first last front start) x ≡
        (list_any (is_within x) ranges || is_from order from x)

-- How many ranges hold an element.
--     depth_at order ranges x              how many of the ranges hold x
--     number_or_none n                     None for 0
--     AreDepths order ranges map           each key has its depth
--     IsDifference order starts ends map   each key has as many starts as its value more than ends
use Rattle.std.specs.Prelude.{ℕ, ◌-◌, ◌==◌, cond, nat_eq, List, Option, Some, None, count_by}
use Rattle.std.specs.declared.cmp.Ordering.{Ordering}
use Rattle.std.specs.declared.ops.Range.{Range}
use Rattle.range_merge.specs.Boundaries.{count_up_to}
use Rattle.range_map.specs.Steps.{Steps, value_at, AreAlike}
use Rattle.range_map.specs.Changed.{is_in_range}

-- the number, or None for 0
abbrev pub number_or_none : ℕ → Option ℕ
number_or_none n = cond (n == 0) None (Some n)

module _ {K : Type 0} (order : K → K → Ordering) where
  -- how many of the ranges hold x
  abbrev pub depth_at : List (Range K) → K → ℕ
  depth_at ranges x = count_by (λ r. is_in_range order r.start (Some r.end) x) ranges

  -- each key has the number of the ranges that hold it, if some do
  abbrev pub AreDepths : List (Range K) → Steps K ℕ → Type 0
  AreDepths ranges map =
      (x : K) → AreAlike nat_eq (value_at order map x) (number_or_none (depth_at ranges x))

  -- each key has the number of the starts at or below it, less that of the ends
  abbrev pub IsDifference : List K → List K → Steps K ℕ → Type 0
  IsDifference starts ends map =
      (x : K) → AreAlike nat_eq (value_at order map x)
      (number_or_none (count_up_to order starts x - count_up_to order ends x))

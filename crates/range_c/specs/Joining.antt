-- One more range after others, of which none starts above it.
--     IsPut order first last before range after    the ranges with one more
use Rattle.std.specs.Prelude.{◌≡◌, ◌||◌, true, List, All}
use Rattle.std.specs.List.{list_any}
use Rattle.std.specs.Ordering.{is_le}
use Rattle.std.specs.declared.cmp.Ordering.{Ordering}
use Rattle.range_collections.specs.Boundaries.{IsAscending}
use Rattle.range_c.specs.Ranges.{is_within, ends_of}

-- the ends ascend, the numbers are those of the ranges before and of the range, and none starts
-- above it
pub record IsPut {P K : Type 0} (order : K → K → Ordering) (first last : P → K) (before : List P)
    (range : P) (after : List P) : Type 0 where
  pub sorted : IsAscending order (ends_of first last after)
  pub members : (x : K) →
      list_any (is_within order first last x) after ≡
      (list_any (is_within order first last x) before || is_within order first last x range)
  pub low : All (λ r. is_le (order (first r) (first range)) ≡ true) after

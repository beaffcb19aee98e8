-- What a tracker holds, and what is always so of it.
use Rattle.std.specs.Prelude.{◌≡◌, ℕ, ◌-◌, ◌^◌, ◌≤◌, false, List, length}
use Rattle.std.specs.Ordering.{nat_cmp}
use Rattle.range_merge.specs.Boundaries.{IsAscending, is_odd, member}
use Rattle.range_tracker.specs.Offsets.{Offsets}

-- the strictly sorted boundaries of the offsets that are there, and how many boundaries there may
-- be
pub record Tracked : Type 0 where
  pub boundaries : List ℕ
  pub limit : ℕ

-- the offsets that are there
abbrev pub recorded : Tracked → Offsets
recorded tracker = member nat_cmp tracker.boundaries

-- the boundaries are strictly sorted, the last range has its end, there are no more of them than
-- the limit, and the limit leaves room for two more
pub record IsWithinLimit (boundaries : List ℕ) (limit : ℕ) : Type 0 where
  pub sorted : IsAscending nat_cmp boundaries
  pub ended : is_odd (length boundaries) ≡ false
  pub within : length boundaries ≤ limit
  pub room : limit ≤ 2 ^ 64 - 3

-- Sets of offsets, and the list of boundaries of one.
--     Offsets                  which offsets are there
--     is_within range n        n is an offset of the range
--     IsListOf items had       the items are the strictly sorted list of boundaries of these offsets
--     HasBoundaries had n      that list has n boundaries
use Rattle.std.specs.Prelude.{◌≡◌, ℕ, Bool, ◌&&◌, nat_le, nat_lt, List, length}
use Rattle.std.specs.Ordering.{nat_cmp}
use Rattle.std.specs.declared.ops.Range.{Range}
use Rattle.range_merge.specs.Boundaries.{IsAscending, member}

-- which offsets are there
abbrev pub Offsets : Type 0
Offsets = ℕ → Bool

-- n is at or above the start and below the end
abbrev pub is_within : Range ℕ → Offsets
is_within range n = nat_le range.start n && nat_lt n range.end

-- the items are strictly sorted, and these are their offsets
pub record IsListOf (items : List ℕ) (had : Offsets) : Type 0 where
  pub sorted : IsAscending nat_cmp items
  pub offsets : (n : ℕ) → member nat_cmp items n ≡ had n

-- the strictly sorted list of boundaries of these offsets has n of them
abbrev pub HasBoundaries : Offsets → ℕ → Type 0
HasBoundaries had n = (items : List ℕ) × IsListOf items had × (length items ≡ n)

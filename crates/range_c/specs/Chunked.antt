-- Sets in chunks, as C has them.
--     held set                          the boundaries of a set, and none where there is no set
--     outcome done                      what a call returned that answers whether it had memory
--     CopiesTo items old new n          the list has n items, and stands in the buffer where that has room
--     CopiesFront ranges old new n      the first ranges have n ends, which stand in the buffer: of as many as have room for two
--     TellsNext order inside items ..   the least number at or above another that is a member, or is none
use Rattle.std.specs.Option.{unwrap_or}
use Rattle.std.specs.Prelude.{◌≡◌, ℕ, ◌/◌, ◌≤◌, ◌<◌, Bool, true, false, not, cond, List, [], ◌++◌, length, take, drop, Option, IsTrue, Result, Ok, Err}
use Rattle.std.specs.List.{flat_map}
use Rattle.std.specs.Ordering.{is_le}
use Rattle.std.specs.declared.alloc.AllocError.{AllocError}
use Rattle.std.specs.declared.cmp.Ordering.{Ordering}
use Rattle.range_collections.specs.Boundaries.{member}
use Rattle.range_collections.specs.Extent.{IsNext}
use Rattle.range_collections.specs.Ranges.{range_ends}
use Rattle.range_collections.specs.declared.range_set_range.RangeSetRange.{RangeSetRange}

-- the boundaries of a set, and none where there is no set
abbrev pub held : {X : Type 0} → Option (List X) → List X
held set = unwrap_or set []

-- what a call returned that answers whether it had memory
abbrev pub outcome : Bool → Result (Unit {0}) AllocError
outcome done = cond done (Ok tt) (Err (record {}))

-- an answer that is true where a number at or above `from` is a member, or is none where inside is
-- false. The least one is told then; else what is told is as it was
pub record TellsNext {K : Type 0} (order : K → K → Ordering) (inside : Bool) (items : List K)
    (from old new : K) (answer : Bool) : Type 0 where
  pub next : IsTrue answer → IsNext order inside items from new
  pub none : answer ≡ false → (x : K) → is_le (order from x) ≡ true → member order items x ≡ not inside
  pub unchanged : answer ≡ false → new ≡ old

-- n is the length of the list. Where the buffer is long enough, it begins with the list, and after
-- that is as it was; where it isn't, all of it is as it was
pub record CopiesTo {K : Type 0} (items old new : List K) (n : ℕ) : Type 0 where
  pub counted : n ≡ length items
  pub written : n ≤ length old → new ≡ items ++ drop n old
  pub unchanged : length old < n → new ≡ old

-- the first ranges, of which there are half as many as the buffer is long or else all, have n ends.
-- The buffer begins with these, and after them it is as it was
pub record CopiesFront {K : Type 0} (ranges : List (RangeSetRange K)) (old new : List K)
    (n : ℕ) : Type 0 where
  pub counted : n ≡ length (flat_map range_ends (take (length old / 2) ranges))
  pub written : new ≡ flat_map range_ends (take (length old / 2) ranges) ++ drop n old

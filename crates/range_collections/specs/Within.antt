-- The parts of a range that are in a set, and those that are not.
--     with_end range              a range of references that has an end, as the range of what they point to
--     borrowed_items start between end    the items that lie between the two ends, with an end that is there
--     within_table inside         in the range, and in the set exactly if `inside`
--     GivesParts order f within items parts     the parts of a range that a connective keeps
use Rattle.std.specs.Prelude.{Bool, cond, List, ◌++◌, Option}
use Rattle.std.specs.Borrow.{Bor}
use Rattle.std.specs.Option.{option_to_list, option_copied}
use Rattle.std.specs.declared.cmp.Ordering.{Ordering}
use Rattle.std.specs.declared.ops.Range.{Range as Ends}
use Rattle.range_merge.specs.Connective.{Table, Means, intersection_table, difference_table}
use Rattle.range_collections.specs.InPlace.{AreOwnElseOf}
use Rattle.range_collections.specs.Ranges.{range_items}
use Rattle.range_collections.specs.declared.range_set_range.RangeSetRange.{RangeSetRange}
use Rattle.range_collections.specs.declared.range_set_range.RangeSetRange.TheVariants.{Range}

-- the range of what the two references point to
abbrev pub with_end : {K : Type 0} → Ends (Bor K) → RangeSetRange K
with_end r = Range (record { start = r.start.now; end = r.end.now })

-- the first item, where it is given, the items between, and the last one, where it is given
abbrev pub borrowed_items : {K : Type 0} → Option (Bor K) → List K → Option (Bor K) → List K
borrowed_items first between last =
    option_to_list (option_copied first) ++ (between ++ option_to_list (option_copied last))

-- in the range, and in the set if `inside`, or else not in the set
abbrev pub within_table : Bool → Table
within_table inside = cond inside intersection_table difference_table

-- the parts of a range that a connective of the range and a set keeps, as the list of their
-- boundaries, with the range's own ends where the set has equal ones
pub record GivesParts {K : Type 0} (order : K → K → Ordering) (f : Table) (within : Ends (Bor K))
    (items parts : List K) : Type 0 where
  pub means : Means order f parts (range_items order within.start.now within.end.now) items
  pub own_ends : AreOwnElseOf order (range_items order within.start.now within.end.now) items parts

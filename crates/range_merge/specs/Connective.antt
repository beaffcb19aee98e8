-- Connectives: tables from two truth values to one, and what a list of boundaries means by them.
--     union_table, ..             the tables of the four operations
--     table_of n l r b            the table with these four answers
--     opposite f                  on just where f is off
--     Means order f items a b     the one list whose members are f of the members of a and b
use Rattle.std.specs.Prelude.{◌≡◌, Bool, true, false, List, not, ◌&&◌, ◌||◌}
use Rattle.std.specs.declared.cmp.Ordering.{Ordering}
use Rattle.range_merge.specs.Boundaries.{IsAscending, member}

-- one of the two holds and the other does not
abbrev pub differ : Bool → Bool → Bool
differ true b = not b
differ false b = b

-- a table from two truth values to one
abbrev pub Table : Type 0
Table = Bool → Bool → Bool

-- in the left or in the right
abbrev pub union_table : Table
union_table a b = a || b

-- in the left and in the right
abbrev pub intersection_table : Table
intersection_table a b = a && b

-- in the left and not in the right
abbrev pub difference_table : Table
difference_table a b = a && not b

-- in one of the two and not in the other
abbrev pub symmetric_difference_table : Table
symmetric_difference_table a b = differ a b

-- the table with these answers where neither side is on, the left alone, the right alone, and both
abbrev pub table_of : Bool → Bool → Bool → Bool → Table
table_of neither left right both false false = neither
table_of neither left right both true false = left
table_of neither left right both false true = right
table_of neither left right both true true = both

-- on just where f is off
abbrev pub opposite : Table → Table
opposite f a b = not (f a b)

-- the items are strictly sorted, and their members are f of the members of a and of b
pub record Means {K : Type 0} (order : K → K → Ordering) (f : Table)
    (items a b : List K) : Type 0 where
  pub sorted : IsAscending order items
  pub members : (x : K) → member order items x ≡ f (member order a x) (member order b x)

-- The members of a set one by one, between the lowest that is unread and the highest.
--     members_between order value items ends     the members from the first place up to the last one, if there are such places
--     AreOuter order value count items first last    the places are those of members, and in order
use Rattle.std.specs.Prelude.{◌≡◌, ℕ, ◌<◌, ◌≤◌, ◌-◌, suc, true, List, [], Option, Some, None}
use Rattle.std.specs.declared.cmp.Ordering.{Ordering}
use Rattle.range_merge.specs.Boundaries.{member}
use Rattle.range_collections.specs.Members.{members_of}

module _ {K : Type 0} (order : K → K → Ordering) (value : ℕ → K) where
  -- the members from the first place up to the last one, if there are such places
  abbrev pub members_between : List K → Option (ℕ × ℕ) → List K
  members_between items None = []
  members_between items (Some ends) = members_of order value items ends.0 (suc ends.1 - ends.0)

  -- the values at both places are members, and in order
  pub record AreOuter (count : ℕ) (items : List K) (first last : ℕ) : Type 0 where
    pub ordered : first ≤ last
    pub fits : last < count
    pub first_in : member order items (value first) ≡ true
    pub last_in : member order items (value last) ≡ true

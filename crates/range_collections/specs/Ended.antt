-- How many values lie in ranges with an end; contracts of private functions use this word.
--     CountsEnded order value count items start n   the ranges with an end have n values, and `start` begins a last one without, if there is one
use Rattle.std.specs.Prelude.{◌≡◌, ℕ, ◌++◌, false, List, Option, length}
use Rattle.std.specs.Option.{option_to_list}
use Rattle.std.specs.declared.cmp.Ordering.{Ordering}
use Rattle.range_merge.specs.Boundaries.{is_odd}
use Rattle.range_collections.specs.Covered.{members_below}

-- the ranges with an end have n values, and `start` begins a last one without, if there is one
pub record CountsEnded {K : Type 0} (order : K → K → Ordering) (value : ℕ → K) (count : ℕ)
    (items : List K) (start : Option K) (n : ℕ) : Type 0 where
  pub ended : List K
  pub are_all : items ≡ ended ++ option_to_list start
  pub even : is_odd (length ended) ≡ false
  pub counted : n ≡ members_below order value ended count

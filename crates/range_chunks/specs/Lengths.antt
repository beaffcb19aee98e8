-- How many items a connective changes at; contracts of private functions use these words.
--     remaining order f ac bc a b     how many items are taken of a and b, where the sides stand as ac and bc say
use Rattle.std.specs.Prelude.{ℕ, Bool, List, length}
use Rattle.std.specs.declared.cmp.Ordering.{Ordering}
use Rattle.range_merge.specs.Connective.{Table}
use Rattle.range_merge.specs.Owners.{owners}
use Rattle.range_merge.specs.Walk.{walk}

-- how many items are taken of two lists, where the sides stand as ac and bc say just before them
abbrev pub remaining : {K : Type 0} → (K → K → Ordering) → Table → Bool → Bool → List K → List K → ℕ
remaining order f ac bc a b = length (walk f ac bc (owners order a b))

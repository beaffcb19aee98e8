-- The walk over owners with two running truths.
use Rattle.std.specs.Prelude.{Bool, not, cond, List, [], ◌∷◌}
use Rattle.range_merge.specs.Connective.{Table, differ}
use Rattle.range_merge.specs.Owners.{Owner, left_only, right_only, shared}
use Rattle.range_merge.specs.Changes.{Taken, from_left, from_right}

-- what is taken of owners, where the two sides stand as ac and bc say just before them
abbrev pub walk : {K : Type 0} → Table → Bool → Bool → List (Owner K) → List (Taken K)
walk f ac bc [] = []
walk f ac bc (left_only x ∷ os) =
    cond (differ (f ac bc) (f (not ac) bc))
    (from_left x ∷ walk f (not ac) bc os) (walk f (not ac) bc os)
walk f ac bc (right_only y ∷ os) =
    cond (differ (f ac bc) (f ac (not bc)))
    (from_right y ∷ walk f ac (not bc) os) (walk f ac (not bc) os)
walk f ac bc (shared x y ∷ os) =
    cond (differ (f ac bc) (f (not ac) (not bc)))
    (from_left x ∷ walk f (not ac) (not bc) os) (walk f (not ac) (not bc) os)

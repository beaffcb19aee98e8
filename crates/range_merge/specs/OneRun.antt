-- One run of a merge: what it removes from the unread lists, what it takes, and how the two truths
-- change.
use Rattle.std.specs.Prelude.{◌≡◌, ℕ, ◌≤◌, ◌<◌, ◌&&◌, ◌+◌, Option, Some, None, Bool, true, false, not, List, length, map, drop, get_or, ◌++◌}
use Rattle.std.specs.declared.cmp.Ordering.{Ordering}
use Rattle.std.specs.declared.cmp.Ordering.TheVariants.{Less, Equal, Greater}
use Rattle.range_merge.specs.Boundaries.{is_odd}
use Rattle.range_merge.specs.Connective.{Table, differ}
use Rattle.range_merge.specs.Owners.{Owner, owners}
use Rattle.range_merge.specs.Changes.{Taken, taken_of, taken_left, taken_right}
use Rattle.range_merge.specs.Runs.{weight, digits, run_len, runs_of}
use Rattle.range_merge.specs.declared.runs.Run.{Run}
use Rattle.range_merge.specs.declared.runs.Run.TheVariants.{Left, Right, Both}
use Rattle.range_merge.specs.Walk.{walk}

-- whether a run is taken
abbrev pub takes : Table → Bool → Bool → Run → Bool
takes f ac bc (Left n) = differ (f false bc) (f true bc)
takes f ac bc (Right n) = differ (f ac false) (f ac true)
takes f ac bc Both = differ (f ac bc) (f (not ac) (not bc))

-- whether the left side is on after a run
abbrev pub left_on_after : Run → Bool → Bool
left_on_after (Left n) ac = differ ac (is_odd n)
left_on_after (Right n) ac = ac
left_on_after Both ac = not ac

-- whether the right side is on after a run
abbrev pub right_on_after : Run → Bool → Bool
right_on_after (Left n) bc = bc
right_on_after (Right n) bc = differ bc (is_odd n)
right_on_after Both bc = not bc

-- one item of the first run, by how the first items stand
abbrev pub one_of_run : Ordering → Run
one_of_run Less = Left 1
one_of_run Equal = Both
one_of_run Greater = Right 1

module _ {K : Type 0} where
  -- the unread lists have the items of the run
  abbrev pub RunFits : Run → List K → List K → Type 0
  RunFits (Left n) a b = (1 ≤ n) × (n ≤ length a)
  RunFits (Right n) a b = (1 ≤ n) × (n ≤ length b)
  RunFits Both a b = (1 ≤ length a) × (1 ≤ length b)

  -- what is left of the left list after a run
  abbrev pub left_after : Run → List K → List K
  left_after (Left n) a = drop n a
  left_after (Right n) a = a
  left_after Both a = drop 1 a

  -- what is left of the right list after a run
  abbrev pub right_after : Run → List K → List K
  right_after (Left n) b = b
  right_after (Right n) b = drop n b
  right_after Both b = drop 1 b

  -- the items of a run, if it is taken
  abbrev pub taken_of_run : Bool → Run → List K → List K → List (Taken K)
  taken_of_run takes (Left n) a b = taken_left takes n a
  taken_of_run takes (Right n) a b = taken_right takes n b
  taken_of_run takes Both a b = taken_left takes 1 a

  -- a run, or some of one, is at the start of two lists: it fits, its owners are all in one run,
  -- and the walk takes it whole or drops it
  pub record StandsAtStart (order : K → K → Ordering) (run : Run) (a b : List K) : Type 0 where
    pub fits : RunFits run a b
    pub its_owners : List (Owner K)
    pub owners_are : owners order a b ≡
        its_owners ++ owners order (left_after run a) (right_after run b)
    pub taken_are : taken_of_run true run a b ≡ map taken_of its_owners
    pub one_run : length (runs_of its_owners) ≡ 1
    pub walked : (f : Table) (ac bc : Bool) →
        walk f ac bc (owners order a b) ≡
        taken_of_run (takes f ac bc run) run a b
        ++ walk f (left_on_after run ac) (right_on_after run bc)
        (owners order (left_after run a) (right_after run b))

  -- the first run: it weighs its digits
  pub record StandsFirst (order : K → K → Ordering) (run : Run) (a b : List K) : Type 0 where
    pub at_start : StandsAtStart order run a b
    pub weighs : weight order a b ≡
        digits (run_len run) + weight order (left_after run a) (right_after run b)

  -- how the first items of two lists stand to one another; none says that one of the lists is empty
  abbrev pub FirstsStand : (K → K → Ordering) → List K → List K → Option Ordering → Type 0
  FirstsStand order a b None = 1 ≤ length a → length b ≡ 0
  FirstsStand order a b (Some how) =
      (1 ≤ length a) × (1 ≤ length b) × ((d : K) → order (get_or a 0 d) (get_or b 0 d) ≡ how)

-- the first n items of both lists are equal, each to the one at its place
abbrev pub ArePairs : {K : Type 0} → (K → K → Ordering) → ℕ → List K → List K → Type 0
ArePairs order n a b = (i : ℕ) → i < n → FirstsStand order (drop i a) (drop i b) (Some Equal)

-- a merge goes on after a pair of equal items: it drops it, or the state can't stop
abbrev pub PairsGoOn : Table → Bool → Bool → Bool → Type 0
PairsGoOn f can_stop ac bc = true ≡ not (can_stop && takes f ac bc Both)

-- how many comparisons were made ahead, to know how the first items stand
abbrev pub ahead_of : Option Ordering → ℕ
ahead_of None = 0
ahead_of (Some how) = 1

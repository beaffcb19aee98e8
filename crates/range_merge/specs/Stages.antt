-- A stage of a merge: what it takes, what is left after it, and what it costs.
--     Progress order f s ..       what was taken between two places of a merge
--     IsFirstRun order run ..     a run at the start of two lists, and what it cost to find
--     Begins .. s firsts          a state before a stage of a merge
--     Ran .. run take old new r   a state before and after it took a run or dropped it
--     Stage .. old new .. r        a state before and after a stage of a merge
use Rattle.std.specs.Prelude.{◌≡◌, ℕ, ◌+◌, ◌*◌, ◌≤◌, ◌<◌, Bool, true, not, ◌&&◌, List, [], ◌++◌, Option, Some, Result, IsOk, OnOk, IfOk}
use Rattle.std.specs.declared.cmp.Ordering.{Ordering}
use Rattle.range_merge.specs.Boundaries.{IsAscending}
use Rattle.range_merge.specs.Changes.{Taken, StopsAmong}
use Rattle.range_merge.specs.Connective.{Table}
use Rattle.range_merge.specs.Owners.{Owner, owners}
use Rattle.range_merge.specs.Runs.{weight, digits, run_len}
use Rattle.range_merge.specs.OneRun.{StandsAtStart, FirstsStand, ahead_of, left_after, right_after, left_on_after, right_on_after, taken_of_run}
use Rattle.range_merge.specs.Walk.{walk}
use Rattle.range_merge.specs.declared.merging.Went.{Went}
use Rattle.range_merge.specs.declared.merging.Went.TheVariants.{Stopped, On}
use Rattle.range_merge.specs.declared.runs.Run.{Run}

-- what holds where a merge goes on, of how its next items stand
abbrev pub IfOn : (Option Ordering → Type 0) → Went → Type 0
IfOn P Stopped = Unit {0}
IfOn P (On next) = P next

-- what holds where a merge stopped
abbrev pub IfStopped : Type 0 → Went → Type 0
IfStopped P Stopped = P
IfStopped P (On next) = Unit {0}

-- a step for first items that stand as `mine` says: it makes the lists shorter where they do, and
-- what it leaves alone stands as before
pub record IsTurn (mine : Ordering) (firsts next : Option Ordering) (before after : ℕ) : Type 0 where
  pub no_longer : after ≤ before
  pub shorter : firsts ≡ Some mine → after < before
  pub same : after ≡ before → next ≡ firsts

-- what a step costs, from the weight w0 to w, for first items that stand as `mine` says: where they
-- do it leaves one comparison, with the one for the next items, and else it does nothing
pub record Leaves (mine : Ordering) (firsts next : Option Ordering) (count0 w0 count w : ℕ) :
    Type 0 where
  pub one : firsts ≡ Some mine → count + 1 + 2 * w ≤ count0 + 2 * w0
  pub at_most : count + 2 * w ≤ count0 + 2 * w0
  pub same : (firsts ≡ Some mine → ⊥) → next ≡ firsts

module _ {K : Type 0} (order : K → K → Ordering) where
  -- from l0 and r0, with the sides on as ac0 and bc0, to l and r: what was taken, with what the
  -- walk takes of the rest, is the whole; a state that can stop has taken nothing
  pub record Progress (f : Table) (can_stop : Bool) (l0 r0 : List K) (ac0 bc0 : Bool)
      (old : List (Taken K) → Type 0) (l r : List K) (ac bc : Bool)
      (new : List (Taken K) → Type 0) : Type 0 where
    pub done : List (Taken K)
    pub splits : done ++ walk f ac bc (owners order l r) ≡ walk f ac0 bc0 (owners order l0 r0)
    pub appended : (before : List (Taken K)) → old before → new (before ++ done)
    pub none_done : can_stop ≡ true → done ≡ []
    pub passed : List (Owner K)
    pub owners_are : owners order l0 r0 ≡ passed ++ owners order l r

  -- a run at the start of two lists, of which it is the first where the merge goes on after it;
  -- what comes after it, and what it cost to find, where `known` comparisons were made before
  pub record IsFirstRun (run : Run) (l r : List K) (next : Option Ordering) (goes_on : Bool)
      (known count0 count : ℕ) : Type 0 where
    pub at_start : StandsAtStart order run l r
    pub weighs : goes_on ≡ true → weight order l r ≡
        digits (run_len run) + weight order (left_after run l) (right_after run r)
    pub after : goes_on ≡ true → FirstsStand order (left_after run l) (right_after run r) next
    pub cost : goes_on ≡ true → count + known ≤ count0 + 2 * digits (run_len run)
    pub at_least : count0 ≤ count
    pub at_most : count + known ≤ count0 + 2 * weight order l r

-- the members of the trait MergeStateMut, of states S with items K
abbrev pub Members : Type 0 → Type 0 → Type 1
Members K S = record {
  left : S → List K;
  right : S → List K;
  left_on : S → Bool;
  right_on : S → Bool;
  output : S → List (Taken K) → Type 0;
  fixed : S → ℕ;
  can_stop : Bool;
  is_infallible : S → Type 0;
}

module _ {K S : Type 0} (m : Members K S) where
  -- where a stage begins: both lists ascend, and the first items stand so
  pub record Begins (order : K → K → Ordering) (s : S) (firsts : Option Ordering) : Type 0 where
    pub left_ascending : IsAscending order (m.left s)
    pub right_ascending : IsAscending order (m.right s)
    pub stands : FirstsStand order (m.left s) (m.right s) firsts

  -- a run was removed, and taken or dropped
  pub record Ran (run : Run) (take : Bool) (old new : S) {E : Type 0}
      (result : Result Bool E) : Type 0 where
    pub goes_on : IfOk result (λ more. more ≡ not (m.can_stop && take))
    pub lefts : IfOk result (λ more. more ≡ true → m.left new ≡ left_after run (m.left old))
    pub rights : IfOk result (λ more. more ≡ true → m.right new ≡ right_after run (m.right old))
    pub lefts_on : OnOk result (m.left_on new ≡ left_on_after run (m.left_on old))
    pub rights_on : OnOk result (m.right_on new ≡ right_on_after run (m.right_on old))
    pub appends : OnOk result ((before : List (Taken K)) → m.output old before →
        m.output new (before ++ taken_of_run take run (m.left old) (m.right old)))
    pub stays : m.fixed new ≡ m.fixed old
    pub succeeds : m.is_infallible old → IsOk result
    pub still_infallible : m.is_infallible old → OnOk result (m.is_infallible new)

  module _ (order : K → K → Ordering) (f : Table) where
    -- the merge goes on: what it took, and how the next items stand
    pub record GoesOn (old new : S) (next : Option Ordering) : Type 0 where
      pub progress : Progress order f m.can_stop
          (m.left old) (m.right old) (m.left_on old) (m.right_on old) (m.output old)
          (m.left new) (m.right new) (m.left_on new) (m.right_on new) (m.output new)
      pub left_ascends : IsAscending order (m.left new)
      pub right_ascends : IsAscending order (m.right new)
      pub stands : FirstsStand order (m.left new) (m.right new) next

    -- the state stopped among the first of what the walk takes
    abbrev pub StopsHere : S → S → Type 0
    StopsHere old new =
        (m.can_stop ≡ true)
        × StopsAmong (owners order (m.left old) (m.right old)) (m.output old) (m.output new)
        (walk f (m.left_on old) (m.right_on old) (owners order (m.left old) (m.right old)))

    -- a stage of a merge, where `known` of its comparisons were made before it
    pub record Stage (old new : S) (known count0 count : ℕ) {E : Type 0}
        (result : Result Went E) : Type 0 where
      pub on : IfOk result (IfOn (GoesOn old new))
      pub stops : IfOk result (IfStopped (StopsHere old new))
      pub counted : IfOk result (IfOn (λ next.
          count + known + 2 * weight order (m.left new) (m.right new)
          ≤ count0 + 2 * weight order (m.left old) (m.right old) + ahead_of next))
      pub at_least : count0 ≤ count
      pub at_most : count + known ≤ count0 + 2 * weight order (m.left old) (m.right old)
      pub stays : m.fixed new ≡ m.fixed old
      pub succeeds : m.is_infallible old → IsOk result
      pub still_infallible : m.is_infallible old → OnOk result (m.is_infallible new)

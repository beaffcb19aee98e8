-- The parts of a merge: a run at the start, a run that was taken or dropped, and one part after
-- another.
use Rattle.std.proofs.Common.{◌≡◌, ℕ, zero, suc, ◌+◌, ◌*◌, ◌≤◌, Bool, true, false, not, ◌&&◌, List, length, Option, Some, None, Result, Ok, Err, slice_get, refl, sym, ◌∙◌, arith}
use Rattle.std.proofs.lemmas.Bool.{false≢true}
use Rattle.std.specs.Cmp.{IsTotalOrder}
use Rattle.std.specs.declared.cmp.Ordering.{Ordering}
use Rattle.range_merge.specs.Boundaries.{IsAscending}
use Rattle.range_merge.specs.Connective.{Table}
use Rattle.range_merge.specs.Stages.{IsFirstRun, Members, Ran, Stage}
use Rattle.range_merge.specs.Runs.{runs, run_len, digits, weight}
use Rattle.range_merge.specs.OneRun.{FirstsStand, StandsFirst, ahead_of, left_after, right_after, takes, one_of_run}
use Rattle.range_merge.specs.declared.merging.Went.{Went}
use Rattle.range_merge.specs.declared.merging.Went.TheVariants.{Stopped, On}
use Rattle.range_merge.specs.declared.runs.Run.{Run}
use Rattle.range_merge.specs.declared.runs.Run.TheVariants.{Left, Right}
use Rattle.range_merge.proofs.FirstRun.{stands_first, one_stands, weight-some, runs-left_all, runs-right_all}
use Rattle.range_merge.proofs.MergeLoop.{Progress-none, Progress-run, Progress-then, Stops-run, Stops-then, IsAscending-left_after, IsAscending-right_after}

module _ {K : Type 0} {order : K → K → Ordering} (o : IsTotalOrder order) (l r : List K) (l_ascends : IsAscending order l) (r_ascends : IsAscending order r) where
  -- what is known of the first items costs no more than the lists weigh
  pub ahead_of-weight : (firsts : Option Ordering) → FirstsStand order l r firsts → ahead_of firsts ≤ 2 * weight order l r
  ahead_of-weight None stands = omega arith
  ahead_of-weight (Some how) stands = omega (arith, weight-some o l r l_ascends r_ascends stands.0)

  -- the first run
  pub first_run-first : (run : Run) (next : Option Ordering) (goes_on : Bool) (known count0 count : ℕ) → slice_get (runs order l r) 0 ≡ Some run
      → FirstsStand order (left_after run l) (right_after run r) next → count0 ≤ count → count + known ≤ count0 + 2 * digits (run_len run)
      → IsFirstRun order run l r next goes_on known count0 count
  first_run-first run next goes_on known count0 count is after at_least cost =
      let first : StandsFirst order run l r = stands_first o l r l_ascends r_ascends run is in
      record {
        at_start = first.at_start;
        weighs = λ _. first.weighs;
        after = λ _. after;
        cost = λ _. cost;
        at_least = at_least;
        at_most = omega (arith, first.weighs);
      }

  -- one item of the first run, where the merge does not go on after it
  pub first_run-one : (run : Run) (how : Ordering) (next : Option Ordering) (goes_on : Bool) (count : ℕ) → run ≡ one_of_run how → FirstsStand order l r (Some how)
      → goes_on ≡ false → IsFirstRun order run l r next goes_on 1 count count
  first_run-one run how next goes_on count is firsts stops = record {
    at_start = one_stands o l r l_ascends r_ascends run how is firsts;
    weighs = λ goes. absurd (false≢true (sym stops ∙ goes));
    after = λ goes. absurd (false≢true (sym stops ∙ goes));
    cost = λ goes. absurd (false≢true (sym stops ∙ goes));
    at_least = omega arith;
    at_most = omega (arith, weight-some o l r l_ascends r_ascends firsts.0);
  }

  -- where the right list is used up, the left is the first run, and the other way round
  pub first_run-left_all : (goes_on : Bool) (count : ℕ) → 1 ≤ length l → length r ≡ 0 → IsFirstRun order (Left (length l)) l r None goes_on 0 count count
  first_run-left_all goes_on count some none =
      first_run-first (Left (length l)) None goes_on 0 count count (runs-left_all o l r l_ascends r_ascends (omega arith) none) (λ _. none) (omega arith) (omega arith)

  pub first_run-right_all : (goes_on : Bool) (count : ℕ) → 1 ≤ length r → length l ≡ 0 → IsFirstRun order (Right (length r)) l r None goes_on 0 count count
  first_run-right_all goes_on count some none =
      first_run-first (Right (length r)) None goes_on 0 count count (runs-right_all o l r l_ascends r_ascends (omega arith) none) (λ any. absurd (omega arith)) (omega arith) (omega arith)

module _ {K S E : Type 0} {m : Members K S}
    {order : K → K → Ordering} {f : Table} (o : IsTotalOrder order) where
  -- nothing was done but to see how the first items stand
  pub Stage-none : (s : S) (firsts : Option Ordering) (known count0 count : ℕ) → IsAscending order (m.left s) → IsAscending order (m.right s) → FirstsStand order (m.left s) (m.right s) firsts
      → count0 ≤ count → count + known ≤ count0 + ahead_of firsts
      → Stage m order f s s known count0 count {E = E} (Ok (On firsts))
  Stage-none s firsts known count0 count l_ascends r_ascends stands at_least at_most = record {
    on = record { progress = Progress-none; left_ascends = l_ascends; right_ascends = r_ascends; stands = stands };
    stops = tt;
    counted = omega arith;
    at_least = at_least;
    at_most = omega (arith, ahead_of-weight o (m.left s) (m.right s) l_ascends r_ascends firsts stands);
    stays = refl;
    succeeds = λ _. refl;
    still_infallible = λ holds. holds;
  }

  module _ (run : Run) {take : Bool} {old new : S} {next : Option Ordering} {known count0 count : ℕ} (takes_is : take ≡ takes f (m.left_on old) (m.right_on old) run)
      (front : IsFirstRun order run (m.left old) (m.right old) next (not (m.can_stop && take)) known count0 count) where
    -- a run was taken or dropped, and the merge goes on
    pub Stage-on : IsAscending order (m.left old) → IsAscending order (m.right old)
        → Ran m run take old new {E = E} (Ok true)
        → Stage m order f old new known count0 count {E = E} (Ok (On next))
    Stage-on l_ascends r_ascends ran =
        let goes : not (m.can_stop && take) ≡ true = sym ran.goes_on in
        let goes_on = rw takes_is at ran.goes_on in
        let appends = rw takes_is at ran.appends in
        let lefts = ran.lefts refl in
        let rights = ran.rights refl in
        record {
          on = record {
            progress = rw (lefts, rights, ran.lefts_on, ran.rights_on) (Progress-run run front.at_start goes_on appends);
            left_ascends = rw lefts (IsAscending-left_after o run (m.left old) l_ascends);
            right_ascends = rw rights (IsAscending-right_after o run (m.right old) r_ascends);
            stands = rw (lefts, rights) (front.after goes);
          };
          stops = tt;
          counted = rw (lefts, rights) (omega (arith, front.weighs goes, front.cost goes));
          at_least = front.at_least;
          at_most = front.at_most;
          stays = ran.stays;
          succeeds = λ _. refl;
          still_infallible = ran.still_infallible;
        }

    -- the state stopped at a run
    pub Stage-stopped : Ran m run take old new {E = E} (Ok false)
        → Stage m order f old new known count0 count {E = E} (Ok Stopped)
    Stage-stopped ran =
        let stops = rw takes_is at ran.goes_on in
        let appends = rw takes_is at ran.appends in
        record {
          on = tt;
          stops = Stops-run f (m.left_on old) (m.right_on old) (m.output old) (m.output new) run front.at_start stops appends;
          counted = tt;
          at_least = front.at_least;
          at_most = front.at_most;
          stays = ran.stays;
          succeeds = λ _. refl;
          still_infallible = ran.still_infallible;
        }

  -- a run was refused
  pub Stage-refused : (run : Run) {take : Bool} {old new : S} {known count0 count : ℕ} (e : E) → count0 ≤ count → count + known ≤ count0 + 2 * weight order (m.left old) (m.right old)
      → Ran m run take old new {E = E} (Err e)
      → Stage m order f old new known count0 count {E = E} (Err e)
  Stage-refused run e at_least at_most ran = record {
    on = tt;
    stops = tt;
    counted = tt;
    at_least = at_least;
    at_most = at_most;
    stays = ran.stays;
    succeeds = ran.succeeds;
    still_infallible = ran.still_infallible;
  }

  -- one part after another
  pub Stage-then : {old mid new : S} {next : Option Ordering} {known count0 count1 count2 : ℕ} (result : Result Went E)
      → Stage m order f old mid known count0 count1 {E = E} (Ok (On next))
      → Stage m order f mid new (ahead_of next) count1 count2 {E = E} result
      → Stage m order f old new known count0 count2 {E = E} result
  Stage-then (Ok (On after)) a b = record {
    on = record {
      progress = Progress-then a.on.progress b.on.progress;
      left_ascends = b.on.left_ascends;
      right_ascends = b.on.right_ascends;
      stands = b.on.stands;
    };
    stops = tt;
    counted = omega (arith, a.counted, b.counted);
    at_least = omega (arith, a.at_least, b.at_least);
    at_most = omega (arith, a.counted, b.at_most);
    stays = b.stays ∙ a.stays;
    succeeds = λ _. refl;
    still_infallible = λ holds. b.still_infallible (a.still_infallible holds);
  }
  Stage-then {old} {mid} {new} (Ok Stopped) a b = record {
    on = tt;
    stops = Stops-then a.on.progress (m.output new) b.stops;
    counted = tt;
    at_least = omega (arith, a.at_least, b.at_least);
    at_most = omega (arith, a.counted, b.at_most);
    stays = b.stays ∙ a.stays;
    succeeds = λ _. refl;
    still_infallible = λ holds. b.still_infallible (a.still_infallible holds);
  }
  Stage-then (Err e) a b = record {
    on = tt;
    stops = tt;
    counted = tt;
    at_least = omega (arith, a.at_least, b.at_least);
    at_most = omega (arith, a.counted, b.at_most);
    stays = b.stays ∙ a.stays;
    succeeds = λ holds. b.succeeds (a.still_infallible holds);
    still_infallible = λ holds. tt;
  }

  -- a part of it, after the first items were compared
  pub Stage-compared : {old new : S} (firsts : Option Ordering) {count0 count1 count2 : ℕ} (result : Result Went E) → IsAscending order (m.left old) → IsAscending order (m.right old)
      → FirstsStand order (m.left old) (m.right old) firsts → count1 ≡ count0 + ahead_of firsts
      → Stage m order f old new (ahead_of firsts) count1 count2 {E = E} result
      → Stage m order f old new 0 count0 count2 {E = E} result
  Stage-compared {old} firsts {count0} {count1} result l_ascends r_ascends stands compared =
      Stage-then result (Stage-none old firsts 0 count0 count1 l_ascends r_ascends stands (omega (arith, compared)) (omega (arith, compared)))

  -- where one list is used up, what is left is one run, or nothing
  module _ {mid new : S} {count : ℕ} (more : Bool) (l_ascends : IsAscending order (m.left mid)) (r_ascends : IsAscending order (m.right mid)) (one : FirstsStand order (m.left mid) (m.right mid) None)
      (lefts : 1 ≤ length (m.left mid) → Ran m (Left (length (m.left mid))) (takes f (m.left_on mid) (m.right_on mid) (Left (length (m.left mid)))) mid new {E = E} (Ok more))
      (rights : 1 ≤ length (m.right mid) → Ran m (Right (length (m.right mid))) (takes f (m.left_on mid) (m.right_on mid) (Right (length (m.right mid)))) mid new {E = E} (Ok more))
      (nothing : length (m.left mid) ≡ 0 → length (m.right mid) ≡ 0 → (◌≡◌ {A = Result Bool E} (Ok more) (Ok true)) × (new ≡ mid)) where
    rest-on : (n k : ℕ) → length (m.left mid) ≡ n → length (m.right mid) ≡ k → more ≡ true → Stage m order f mid new 0 count count {E = E} (Ok (On None))
    rest-on zero zero no_left no_right goes = rw (nothing no_left no_right).1 (Stage-none mid None 0 count count l_ascends r_ascends one (omega arith) (omega arith))
    rest-on (suc n) k is_left is_right goes =
        let some : 1 ≤ length (m.left mid) = omega arith in
        Stage-on (Left (length (m.left mid))) refl (first_run-left_all o (m.left mid) (m.right mid) l_ascends r_ascends _ count some (one some)) l_ascends r_ascends (rw goes at lefts some)
    rest-on zero (suc k) no_left is_right goes =
        let some : 1 ≤ length (m.right mid) = omega arith in
        Stage-on (Right (length (m.right mid))) refl (first_run-right_all o (m.left mid) (m.right mid) l_ascends r_ascends _ count some no_left) l_ascends r_ascends (rw goes at rights some)

    rest-stopped : (n k : ℕ) → length (m.left mid) ≡ n → length (m.right mid) ≡ k → more ≡ false → Stage m order f mid new 0 count count {E = E} (Ok Stopped)
    rest-stopped zero zero no_left no_right stops = absurd (false≢true (sym stops ∙ cc ((nothing no_left no_right).0)))
    rest-stopped (suc n) k is_left is_right stops =
        let some : 1 ≤ length (m.left mid) = omega arith in
        Stage-stopped (Left (length (m.left mid))) refl (first_run-left_all o (m.left mid) (m.right mid) l_ascends r_ascends _ count some (one some)) (rw stops at lefts some)
    rest-stopped zero (suc k) no_left is_right stops =
        let some : 1 ≤ length (m.right mid) = omega arith in
        Stage-stopped (Right (length (m.right mid))) refl (first_run-right_all o (m.left mid) (m.right mid) l_ascends r_ascends _ count some no_left) (rw stops at rights some)

    pub Stage-rest : more ≡ true → Stage m order f mid new 0 count count {E = E} (Ok (On None))
    Stage-rest = rest-on (length (m.left mid)) (length (m.right mid)) refl refl

    pub Stage-rest_stopped : more ≡ false → Stage m order f mid new 0 count count {E = E} (Ok Stopped)
    Stage-rest_stopped = rest-stopped (length (m.left mid)) (length (m.right mid)) refl refl

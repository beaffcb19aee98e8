-- How a merge ends: what is left where one list is used up is taken or dropped, and the state may
-- stop at it.
use Rattle.std.proofs.Common.{◌≡◌, ℕ, ◌≤◌, Bool, true, false, List, [], ◌++◌, length, None, Result, Ok, Err, IfOk, sym, ◌∙◌}
use Rattle.std.specs.Cmp.{IsTotalOrder}
use Rattle.std.specs.declared.cmp.Ordering.{Ordering}
use Rattle.range_merge.specs.Boundaries.{IsAscending}
use Rattle.range_merge.specs.Changes.{Taken, changes, StopsAmong}
use Rattle.range_merge.specs.Connective.{Table}
use Rattle.range_merge.specs.Owners.{owners}
use Rattle.range_merge.specs.Stages.{Members, Ran, Stage}
use Rattle.range_merge.specs.OneRun.{takes}
use Rattle.range_merge.specs.declared.merging.Went.TheVariants.{Stopped, On}
use Rattle.range_merge.specs.declared.runs.Run.TheVariants.{Left, Right}
use Rattle.range_merge.proofs.FirstRun.{changes-walk}
use Rattle.range_merge.proofs.MergeLoop.{Progress-end}
use Rattle.range_merge.proofs.StagesOfMerge.{Stage-then, Stage-rest, Stage-rest_stopped}

module _ {K S E : Type 0} {m : Members K S}
    {order : K → K → Ordering} {f : Table} (o : IsTotalOrder order) {old mid new : S} {count0 count1 : ℕ}
    (so_far : Stage m order f old mid 0 count0 count1 {E = E} (Ok (On None)))
    (l_ascends : IsAscending order (m.left old)) (r_ascends : IsAscending order (m.right old)) (left_off : m.left_on old ≡ false) (right_off : m.right_on old ≡ false) where
  module _ (more : Bool)
      (lefts : 1 ≤ length (m.left mid) → Ran m (Left (length (m.left mid))) (takes f (m.left_on mid) (m.right_on mid) (Left (length (m.left mid)))) mid new {E = E} (Ok more))
      (rights : 1 ≤ length (m.right mid) → Ran m (Right (length (m.right mid))) (takes f (m.left_on mid) (m.right_on mid) (Right (length (m.right mid)))) mid new {E = E} (Ok more))
      (nothing : length (m.left mid) ≡ 0 → length (m.right mid) ≡ 0 → (◌≡◌ {A = Result Bool E} (Ok more) (Ok true)) × (new ≡ mid)) where
    whole : more ≡ true → Stage m order f old new 0 count0 count1 {E = E} (Ok (On None))
    whole goes = Stage-then o (Ok (On None)) so_far (Stage-rest o more so_far.on.left_ascends so_far.on.right_ascends so_far.on.stands lefts rights nothing goes)

    front : more ≡ false → Stage m order f old new 0 count0 count1 {E = E} (Ok Stopped)
    front stops = Stage-then o (Ok Stopped) so_far (Stage-rest_stopped o more so_far.on.left_ascends so_far.on.right_ascends so_far.on.stands lefts rights nothing stops)

  -- where the state stopped, it took some of the changes
  pub end-stopped : (result : Result Bool E)
      → (1 ≤ length (m.left mid) → Ran m (Left (length (m.left mid))) (takes f (m.left_on mid) (m.right_on mid) (Left (length (m.left mid)))) mid new {E = E} result)
      → (1 ≤ length (m.right mid) → Ran m (Right (length (m.right mid))) (takes f (m.left_on mid) (m.right_on mid) (Right (length (m.right mid)))) mid new {E = E} result)
      → (length (m.left mid) ≡ 0 → length (m.right mid) ≡ 0 → (result ≡ Ok true) × (new ≡ mid))
      → IfOk result (λ more. more ≡ false → (m.can_stop ≡ true) × StopsAmong (owners order (m.left old) (m.right old)) (m.output old) (m.output new) (changes order f (m.left old) (m.right old)))
  end-stopped (Ok more) lefts rights nothing =
      λ stops. rw (changes-walk o (m.left old) (m.right old) l_ascends r_ascends f) (rw (left_off, right_off) at (front more lefts rights nothing stops).stops)
  end-stopped (Err e) lefts rights nothing = tt

  -- where both lists are used up, it took all of them
  pub end-taken : (result : Result Bool E)
      → (1 ≤ length (m.left mid) → Ran m (Left (length (m.left mid))) (takes f (m.left_on mid) (m.right_on mid) (Left (length (m.left mid)))) mid new {E = E} result)
      → (1 ≤ length (m.right mid) → Ran m (Right (length (m.right mid))) (takes f (m.left_on mid) (m.right_on mid) (Right (length (m.right mid)))) mid new {E = E} result)
      → (length (m.left mid) ≡ 0 → length (m.right mid) ≡ 0 → (result ≡ Ok true) × (new ≡ mid))
      → IfOk result (λ more. more ≡ true → (m.left new ≡ []) × (m.right new ≡ []))
      → IfOk result (λ more. more ≡ true → (before : List (Taken K)) → m.output old before → m.output new (before ++ changes order f (m.left old) (m.right old)))
  end-taken (Ok more) lefts rights nothing used_up = λ goes before holds.
      let progress = (whole more lefts rights nothing goes).on.progress in
      let all = Progress-end progress (used_up goes).0 (used_up goes).1 in
      rw (changes-walk o (m.left old) (m.right old) l_ascends r_ascends f) (rw (all, left_off, right_off) at progress.appended before holds)
  end-taken (Err e) lefts rights nothing used_up = tt

  -- and a state that can stop took none, since there are none
  pub end-not_stopped : m.can_stop ≡ true → (result : Result Bool E)
      → (1 ≤ length (m.left mid) → Ran m (Left (length (m.left mid))) (takes f (m.left_on mid) (m.right_on mid) (Left (length (m.left mid)))) mid new {E = E} result)
      → (1 ≤ length (m.right mid) → Ran m (Right (length (m.right mid))) (takes f (m.left_on mid) (m.right_on mid) (Right (length (m.right mid)))) mid new {E = E} result)
      → (length (m.left mid) ≡ 0 → length (m.right mid) ≡ 0 → (result ≡ Ok true) × (new ≡ mid))
      → IfOk result (λ more. more ≡ true → (m.left new ≡ []) × (m.right new ≡ []))
      → IfOk result (λ more. more ≡ true → changes order f (m.left old) (m.right old) ≡ [])
  end-not_stopped can (Ok more) lefts rights nothing used_up = λ goes.
      let progress = (whole more lefts rights nothing goes).on.progress in
      let end = Progress-end progress (used_up goes).0 (used_up goes).1 in
      let all = rw (left_off, right_off) at end in
      changes-walk o (m.left old) (m.right old) l_ascends r_ascends f ∙ sym all ∙ progress.none_done can
  end-not_stopped can (Err e) lefts rights nothing used_up = tt

-- The loop of the merge: what is taken so far and what the walk takes of the rest make up the
-- whole.
use Rattle.std.proofs.Common.{◌≡◌, ◌≤◌, Bool, true, false, not, ◌&&◌, List, [], ◌++◌, length, take, ap, sym, ◌∙◌, refl, subst, arith, append_assoc}
use Rattle.std.proofs.lemmas.List.{append-nil, take_at, length-append, length-map, length-take}
use Rattle.std.specs.declared.cmp.Ordering.{Ordering}
use Rattle.std.specs.declared.cmp.Ordering.TheVariants.{Less}
use Rattle.std.specs.Cmp.{IsTotalOrder}
use Rattle.range_merge.specs.Boundaries.{IsAscending}
use Rattle.range_merge.specs.Connective.{Table}
use Rattle.range_merge.specs.Changes.{Taken, StopsAmong}
use Rattle.range_merge.specs.Owners.{owners}
use Rattle.range_merge.specs.Walk.{walk}
use Rattle.range_merge.specs.Stages.{Progress}
use Rattle.range_merge.specs.OneRun.{StandsAtStart, RunFits, takes, taken_of_run, left_after, right_after, left_on_after, right_on_after}
use Rattle.range_merge.specs.declared.runs.Run.{Run}
use Rattle.range_merge.specs.declared.runs.Run.TheVariants.{Left, Right, Both}
use Rattle.range_merge.proofs.Pairs.{AllPairs-drop}

-- a state that can stop and goes on did not take
pub goes_on-untaken : (s t : Bool) → true ≡ not (s && t) → s ≡ true → t ≡ false
goes_on-untaken true true h e = cc
goes_on-untaken true false h e = refl
goes_on-untaken false true h e = cc
goes_on-untaken false false h e = refl

-- a state that stops can stop, and took
stops-both : (s t : Bool) → false ≡ not (s && t) → (s ≡ true) × (t ≡ true)
stops-both true true h = (refl, refl)
stops-both true false h = (refl, cc)
stops-both false true h = (cc, refl)
stops-both false false h = (cc, cc)

-- a state that can stop and takes stops
pub stops-here : (s t : Bool) → s ≡ true → t ≡ true → not (s && t) ≡ false
stops-here true true h e = refl
stops-here true false h e = cc
stops-here false true h e = cc
stops-here false false h e = cc

module _ {K : Type 0} (l r : List K) where
  taken_of_run-false : (run : Run) → taken_of_run false run l r ≡ []
  taken_of_run-false (Left n) = refl
  taken_of_run-false (Right n) = refl
  taken_of_run-false Both = refl

  length-taken_of_run : (run : Run) → RunFits run l r → 1 ≤ length (taken_of_run true run l r)
  length-taken_of_run (Left n) fits = simp (length-map, length-take) (omega arith)
  length-taken_of_run (Right n) fits = simp (length-map, length-take) (omega arith)
  length-taken_of_run Both fits = simp (length-map, length-take) (omega arith)

module _ {K : Type 0} {order : K → K → Ordering} {can_stop : Bool} {l r : List K} (f : Table) (ac bc : Bool) (old new : List (Taken K) → Type 0) where
  -- where the state stops, the run stands at the start of what the walk takes
  pub Stops-run : (run : Run) (first : StandsAtStart order run l r)
      (stops : false ≡ not (can_stop && takes f ac bc run))
      (appends : (before : List (Taken K)) → old before → new (before ++ taken_of_run (takes f ac bc run) run l r))
      → (can_stop ≡ true) × StopsAmong (owners order l r) old new (walk f ac bc (owners order l r))
  Stops-run run first stops appends =
      let both : (can_stop ≡ true) × (takes f ac bc run ≡ true) = stops-both can_stop _ stops in
      let taken : List (Taken K) = taken_of_run (takes f ac bc run) run l r in
      let rest : List (Taken K) = walk f (left_on_after run ac) (right_on_after run bc) (owners order (left_after run l) (right_after run r)) in
      let whole : walk f ac bc (owners order l r) ≡ taken ++ rest = first.walked f ac bc in
      let some : 1 ≤ length taken = subst (λ t. 1 ≤ length (taken_of_run t run l r)) (sym both.1) (length-taken_of_run l r run first.fits) in
      let front : take (length taken) (walk f ac bc (owners order l r)) ≡ taken = ap (take (length taken)) whole ∙ take_at taken rest _ refl in (
        both.0,
        (
          length taken,
          some,
          (rw whole (simp length-append (omega arith))),
          (λ before holds. subst new (ap (λ ts. before ++ ts) (sym front)) (appends before holds)),
          (
            [],
            first.its_owners,
            owners order (left_after run l) (right_after run r),
            first.owners_are,
            front ∙ ap (λ t. taken_of_run t run l r) both.1 ∙ first.taken_are,
            first.one_run,
          ),
        ),
      )

module _ {K : Type 0} {order : K → K → Ordering} {f : Table} {can_stop : Bool} {l r : List K} {ac bc : Bool} {old : List (Taken K) → Type 0} where
  -- nothing was done
  pub Progress-none : Progress order f can_stop l r ac bc old l r ac bc old
  Progress-none = record {
    done = [];
    splits = refl;
    appended = λ before holds. rw append-nil holds;
    none_done = λ can. refl;
    passed = [];
    owners_are = refl;
  }

  -- one run was taken or dropped
  pub Progress-run : (run : Run) {new : List (Taken K) → Type 0} (first : StandsAtStart order run l r)
      (goes_on : true ≡ not (can_stop && takes f ac bc run))
      (appends : (before : List (Taken K)) → old before → new (before ++ taken_of_run (takes f ac bc run) run l r))
      → Progress order f can_stop l r ac bc old (left_after run l) (right_after run r) (left_on_after run ac) (right_on_after run bc) new
  Progress-run run first goes_on appends = record {
    done = taken_of_run (takes f ac bc run) run l r;
    splits = sym (first.walked f ac bc);
    appended = appends;
    none_done = λ can. ap (λ t. taken_of_run t run l r) (goes_on-untaken can_stop _ goes_on can) ∙ taken_of_run-false l r run;
    passed = first.its_owners;
    owners_are = first.owners_are;
  }

  module _ {l' r' : List K} {ac' bc' : Bool} {mid : List (Taken K) → Type 0} (so_far : Progress order f can_stop l r ac bc old l' r' ac' bc' mid) where
    -- one part after another
    pub Progress-then : {l'' r'' : List K} {ac'' bc'' : Bool} {new : List (Taken K) → Type 0}
        → Progress order f can_stop l' r' ac' bc' mid l'' r'' ac'' bc'' new → Progress order f can_stop l r ac bc old l'' r'' ac'' bc'' new
    Progress-then {l''} {r''} {ac''} {bc''} {new} further = record {
      done = so_far.done ++ further.done;
      splits = append_assoc so_far.done further.done _ ∙ ap (λ ts. so_far.done ++ ts) further.splits ∙ so_far.splits;
      appended = λ before holds. subst new (append_assoc before so_far.done further.done) (further.appended (before ++ so_far.done) (so_far.appended before holds));
      none_done = λ can. ap (λ ts. ts ++ further.done) (so_far.none_done can) ∙ further.none_done can;
      passed = so_far.passed ++ further.passed;
      owners_are = so_far.owners_are ∙ ap (λ os. so_far.passed ++ os) further.owners_are ∙ sym (append_assoc so_far.passed further.passed _);
    }

    -- a stop after a part
    pub Stops-then : (new : List (Taken K) → Type 0) → (can_stop ≡ true) × StopsAmong (owners order l' r') mid new (walk f ac' bc' (owners order l' r'))
        → (can_stop ≡ true) × StopsAmong (owners order l r) old new (walk f ac bc (owners order l r))
    Stops-then new stopped =
        let none : so_far.done ≡ [] = so_far.none_done stopped.0 in
        let items : List (Taken K) = walk f ac' bc' (owners order l' r') in
        let same : walk f ac bc (owners order l r) ≡ items = sym so_far.splits ∙ ap (λ ts. ts ++ items) none in
        let (n, some, within, appended, (earlier, these, later, os, ts, one)) = stopped.1 in (
          stopped.0,
          (
            n,
            some,
            subst (λ xs. n ≤ length xs) (sym same) within,
            (λ before holds.
                let held : mid before = subst mid (ap (λ xs. before ++ xs) none ∙ append-nil before) (so_far.appended before holds) in
                subst new (ap (λ xs. before ++ take n xs) (sym same)) (appended before held)),
            (
              so_far.passed ++ earlier,
              these,
              later,
              so_far.owners_are ∙ ap (λ xs. so_far.passed ++ xs) os ∙ sym (append_assoc so_far.passed earlier (these ++ later)),
              ap (take n) same ∙ ts,
              one,
            ),
          ),
        )

    -- at the end nothing is left to take
    pub Progress-end : l' ≡ [] → r' ≡ [] → so_far.done ≡ walk f ac bc (owners order l r)
    unfolding owners
    Progress-end l_used r_used =
        let none : owners order l' r' ≡ [] = ap (λ a. owners order a r') l_used ∙ ap (owners order []) r_used in
        sym (append-nil so_far.done) ∙ ap (λ os. so_far.done ++ walk f ac' bc' os) (sym none) ∙ so_far.splits

module _ {K : Type 0} {order : K → K → Ordering} (o : IsTotalOrder order) where
  -- what is left after a run ascends
  pub IsAscending-left_after : (run : Run) (l : List K) → IsAscending order l → IsAscending order (left_after run l)
  IsAscending-left_after (Left n) l h = AllPairs-drop (λ x y. order x y ≡ Less) n l h
  IsAscending-left_after (Right n) l h = h
  IsAscending-left_after Both l h = AllPairs-drop (λ x y. order x y ≡ Less) 1 l h

  pub IsAscending-right_after : (run : Run) (r : List K) → IsAscending order r → IsAscending order (right_after run r)
  IsAscending-right_after (Left n) r h = h
  IsAscending-right_after (Right n) r h = AllPairs-drop (λ x y. order x y ≡ Less) n r h
  IsAscending-right_after Both r h = AllPairs-drop (λ x y. order x y ≡ Less) 1 r h

-- The first run of two lists, as one step of a merge.
use Rattle.std.proofs.Common.{◌≡◌, ◌+◌, ◌≤◌, ◌<◌, true, List, [], ◌∷◌, ◌++◌, length, map, take, drop, Some, None, Option, ℕ, get_or, slice_get, false, not, refl, sym, ap, ap₂, ◌∙◌, arith}
use Rattle.std.proofs.lemmas.List.{append-nil, length-take, nil_from_length}
use Rattle.std.specs.Cmp.{IsTotalOrder}
use Rattle.std.specs.declared.cmp.Ordering.{Ordering}
use Rattle.std.specs.declared.cmp.Ordering.TheVariants.{Less, Equal, Greater}
use Rattle.range_merge.specs.Boundaries.{IsAscending}
use Rattle.range_merge.specs.Connective.{Table, differ}
use Rattle.range_merge.specs.Changes.{Taken, changes, from_left, from_right, taken_of, taken_left}
use Rattle.range_merge.specs.Owners.{Owner, left_only, right_only, shared, owners}
use Rattle.range_merge.specs.Runs.{runs, runs_of, run_len, weight}
use Rattle.range_merge.specs.Walk.{walk}
use Rattle.range_merge.specs.OneRun.{RunFits, StandsAtStart, StandsFirst, FirstsStand, one_of_run}
use Rattle.range_merge.specs.declared.runs.Run.{Run}
use Rattle.range_merge.specs.declared.runs.Run.TheVariants.{Left, Right, Both}
use Rattle.range_merge.proofs.Digits as numbers
use Rattle.range_merge.proofs.OwnersLemmas.{IsOwners-owners}
use Rattle.range_merge.proofs.FirstRuns.{FirstLeft, FirstRight, FirstBoth, first_left, first_right, first_both, first_none, digits-one}
use Rattle.range_merge.proofs.Orders.{Less-from_greater}
use Rattle.range_merge.proofs.RunsFound as found
use Rattle.range_merge.proofs.RunsLemmas.{runs_of-map_left_only, runs_of-map_right_only}
use Rattle.range_merge.proofs.WalkLemmas.{walk-left, walk-right, walk-shared}
use Rattle.range_merge.proofs.ChangesLemmas as walked

module _ {K : Type 0} where
  -- owners of one side are taken with its mark
  taken_of-side : (only : K → Owner K) (mark : K → Taken K) → ((x : K) → mark x ≡ taken_of (only x)) → (xs : List K) →
      map mark xs ≡ map taken_of (map only xs)
  taken_of-side only mark is [] = refl
  taken_of-side only mark is (x ∷ xs) = ap₂ (λ t ts. t ∷ ts) (is x) (taken_of-side only mark is xs)

  -- owners of one side are one run
  one_run-side : (only : K → Owner K) (run : ℕ → Run) →
      ((x : K) (xs : List K) → runs_of (map only (x ∷ xs) ++ []) ≡ run (length (x ∷ xs)) ∷ runs_of {K = K} []) →
      (xs : List K) → 1 ≤ length xs → length (runs_of (map only xs)) ≡ 1
  unfolding runs_of
  one_run-side only run first [] some = absurd (omega arith)
  one_run-side only run first (x ∷ xs) some =
      ap (λ os. length (runs_of os)) (sym (append-nil (map only (x ∷ xs)))) ∙ ap length (first x xs)

  one_run-shared : (x y : K) → length (runs_of (shared x y ∷ [])) ≡ 1
  unfolding runs_of
  one_run-shared x y = refl

  run_len-some : (run : Run) (a b : List K) → RunFits run a b → 1 ≤ run_len run
  run_len-some (Left n) a b fits = fits.0
  run_len-some (Right n) a b fits = fits.0
  run_len-some Both a b fits = omega arith

module _ {K : Type 0} {order : K → K → Ordering} (o : IsTotalOrder order) (a b : List K) (a_ascends : IsAscending order a) (b_ascends : IsAscending order b) where
  front_left : (n : ℕ) → 1 ≤ n → n ≤ length a → owners order a b ≡ map left_only (take n a) ++ owners order (drop n a) b → StandsAtStart order (Left n) a b
  unfolding runs_of
  front_left n some within are = record {
    fits = (some, within);
    its_owners = map left_only (take n a);
    owners_are = are;
    taken_are = taken_of-side left_only from_left (λ x. refl) (take n a);
    one_run = one_run-side left_only Left (λ x xs. runs_of-map_left_only x xs [] (λ y. refl)) (take n a) (simp length-take (omega (arith, some, within)));
    walked = λ f ac bc. ap (walk f ac bc) are ∙ walk-left f ac bc n a _ within;
  }

  front_right : (n : ℕ) → 1 ≤ n → n ≤ length b → owners order a b ≡ map right_only (take n b) ++ owners order a (drop n b) → StandsAtStart order (Right n) a b
  unfolding runs_of
  front_right n some within are = record {
    fits = (some, within);
    its_owners = map right_only (take n b);
    owners_are = are;
    taken_are = taken_of-side right_only from_right (λ x. refl) (take n b);
    one_run = one_run-side right_only Right (λ x xs. runs_of-map_right_only x xs [] (λ y. refl)) (take n b) (simp length-take (omega (arith, some, within)));
    walked = λ f ac bc. ap (walk f ac bc) are ∙ walk-right f ac bc n b _ within;
  }

  pub stands_first : (run : Run) → slice_get (runs order a b) 0 ≡ Some run → StandsFirst order run a b
  stands_first (Left n) e =
      let first : FirstLeft order a b n = first_left o a b a_ascends b_ascends n e in
      record { at_start = front_left n first.some first.within first.owners_are; weighs = first.weight_is }
  stands_first (Right n) e =
      let first : FirstRight order a b n = first_right o a b a_ascends b_ascends n e in
      record { at_start = front_right n first.some first.within first.owners_are; weighs = first.weight_is }
  stands_first Both e =
      let first : FirstBoth order a b = first_both o a b a_ascends b_ascends e in
      record {
        at_start = record {
          fits = (first.left_some, first.right_some);
          its_owners = shared first.left_item first.right_item ∷ [];
          owners_are = first.owners_are;
          taken_are = ap (λ l. taken_left true 1 l) first.left_is;
          one_run = one_run-shared first.left_item first.right_item;
          walked = λ f ac bc.
              ap (walk f ac bc) first.owners_are ∙ walk-shared f ac bc first.left_item first.right_item (drop 1 a) _
              ∙ ap (λ l. taken_left (differ (f ac bc) (f (not ac) (not bc))) 1 l ++ walk f (not ac) (not bc) (owners order (drop 1 a) (drop 1 b))) (sym first.left_is);
        };
        weighs = omega (arith, first.weight_is, digits-one);
      }

  pub used_up : slice_get (runs order a b) 0 ≡ None → (a ≡ []) × (b ≡ [])
  used_up e = first_none o a b a_ascends b_ascends e

  weight-some_at : (first : Option Run) → slice_get (runs order a b) 0 ≡ first → 1 ≤ length a → 1 ≤ weight order a b
  weight-some_at None e some = absurd (omega (arith, some, ap length (used_up e).0))
  weight-some_at (Some run) e some =
      let first : StandsFirst order run a b = stands_first run e in
      omega (arith, first.weighs, numbers.digits-half 0 (run_len run) (run_len-some run a b first.at_start.fits) (omega arith))

  -- lists with an item weigh something
  pub weight-some : 1 ≤ length a → 1 ≤ weight order a b
  weight-some some = weight-some_at (slice_get (runs order a b) 0) refl some

  one_stands_at : (how : Ordering) → FirstsStand order a b (Some how) → StandsAtStart order (one_of_run how) a b
  one_stands_at Less firsts =
      front_left 1 (omega arith) firsts.0 (found.owners-left o a b a_ascends b_ascends 1 firsts.0 firsts.1 firsts.2)
  one_stands_at Equal firsts =
      (stands_first Both (found.runs-both o a b a_ascends b_ascends firsts.0 firsts.1 firsts.2)).at_start
  one_stands_at Greater firsts =
      front_right 1 (omega arith) firsts.1
      (found.owners-right o a b a_ascends b_ascends 1 firsts.1 firsts.0 (λ d. Less-from_greater o (get_or a 0 d) (get_or b 0 d) (firsts.2 d)))

  -- one item of the first run stands at the start of both lists
  pub one_stands : (run : Run) (how : Ordering) → run ≡ one_of_run how → FirstsStand order a b (Some how) → StandsAtStart order run a b
  one_stands run how e firsts = rw e (one_stands_at how firsts)

  pub weight-le : weight order a b ≤ length a + length b
  weight-le = numbers.weight-le order a b

  pub changes-walk : (f : Table) → changes order f a b ≡ walk f false false (owners order a b)
  changes-walk f = walked.changes-walk o f a b (IsOwners-owners o a b a_ascends b_ascends)

  pub runs-left_all : 0 < length a → length b ≡ 0 → slice_get (runs order a b) 0 ≡ Some (Left (length a))
  runs-left_all some none = rw (nil_from_length b none) (found.runs-left_all o a some)

  pub runs-right_all : 0 < length b → length a ≡ 0 → slice_get (runs order a b) 0 ≡ Some (Right (length b))
  runs-right_all some none = rw (nil_from_length a none) (found.runs-right_all o b b_ascends some)

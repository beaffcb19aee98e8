-- Pairs of equal items at the start of two lists, which a merge takes at once.
use Rattle.std.proofs.Common.{◌≡◌, ℕ, zero, suc, ◌+◌, Bool, true, false, not, ◌&&◌, List, [], ◌∷◌, ◌++◌, length, drop, Some, ⊎_elim, refl, sym, ap, ap₂, ◌∙◌, arith, append_assoc}
use Rattle.std.proofs.lemmas.Bool.{cases_eq}
use Rattle.std.proofs.lemmas.List.{length-drop}
use Rattle.std.specs.Cmp.{IsTotalOrder}
use Rattle.std.specs.declared.cmp.Ordering.{Ordering}
use Rattle.std.specs.declared.cmp.Ordering.TheVariants.{Less, Equal}
use Rattle.range_merge.specs.Boundaries.{IsAscending, is_odd}
use Rattle.range_merge.specs.Changes.{Taken, taken_left}
use Rattle.range_merge.specs.Connective.{Table, differ}
use Rattle.range_merge.specs.Owners.{Owner, owners}
use Rattle.range_merge.specs.Stages.{Progress}
use Rattle.range_merge.specs.Runs.{weight}
use Rattle.range_merge.specs.OneRun.{ArePairs, FirstsStand, PairsGoOn, StandsFirst, takes}
use Rattle.range_merge.specs.Walk.{walk}
use Rattle.range_merge.specs.declared.runs.Run.TheVariants.{Both}
use Rattle.range_merge.proofs.FirstRun.{stands_first}
use Rattle.range_merge.proofs.FirstRuns.{digits-one}
use Rattle.range_merge.proofs.MergeLoop.{goes_on-untaken}
use Rattle.range_merge.proofs.Pairs.{AllPairs-drop}
use Rattle.range_merge.proofs.Parity.{is_odd-suc, differ-comm, differ-false, differ-not_both}
use Rattle.range_merge.proofs.RunsFound.{runs-both}

module _ {K : Type 0} (order : K → K → Ordering) (a b : List K) where
  -- the first pair
  pub ArePairs-one : FirstsStand order a b (Some Equal) → ArePairs order 1 a b
  ArePairs-one first zero within = first
  ArePairs-one first (suc i) within = absurd (omega arith)

  -- one pair more
  pub ArePairs-more : (n : ℕ) → ArePairs order n a b → FirstsStand order (drop n a) (drop n b) (Some Equal) → ArePairs order (n + 1) a b
  ArePairs-more n pairs next i within =
      ⊎_elim (λ last. rw last next) (λ other. pairs i (omega arith)) (cases_eq i n)

-- whether pairs are taken is the same after one
pub takes-flipped : (f : Table) (ac bc : Bool) → takes f (not ac) (not bc) Both ≡ takes f ac bc Both
takes-flipped f true true = differ-comm (f false false) (f true true)
takes-flipped f true false = differ-comm (f false true) (f true false)
takes-flipped f false true = differ-comm (f true false) (f false true)
takes-flipped f false false = differ-comm (f true true) (f false false)

pub PairsGoOn-flipped : (f : Table) (can_stop ac bc : Bool) → PairsGoOn f can_stop ac bc → PairsGoOn f can_stop (not ac) (not bc)
PairsGoOn-flipped f can_stop ac bc goes_on = goes_on ∙ ap (λ t. not (can_stop && t)) (sym (takes-flipped f ac bc))

module _ {K : Type 0} where
  taken_left-none : (takes : Bool) (items : List K) → taken_left takes 0 items ≡ []
  taken_left-none true items = refl
  taken_left-none false items = refl

  taken_left-more : (takes : Bool) (n : ℕ) (x : K) (items : List K) → taken_left takes (suc n) (x ∷ items) ≡ taken_left takes 1 (x ∷ items) ++ taken_left takes n items
  taken_left-more true n x items = refl
  taken_left-more false n x items = refl

-- what n pairs at the start of two lists are to the walk, and what they weigh
record Pairs {K : Type 0} (order : K → K → Ordering) (n : ℕ) (a b : List K) : Type 0 where
  passed : List (Owner K)
  owners_are : owners order a b ≡ passed ++ owners order (drop n a) (drop n b)
  walked : (f : Table) (ac bc : Bool) → walk f ac bc (owners order a b) ≡
      taken_left (takes f ac bc Both) n a ++ walk f (differ ac (is_odd n)) (differ bc (is_odd n)) (owners order (drop n a) (drop n b))
  weighs : weight order a b ≡ n + weight order (drop n a) (drop n b)

module _ {K : Type 0} {order : K → K → Ordering} (o : IsTotalOrder order) where
  no_pairs : (a b : List K) → Pairs order 0 a b
  no_pairs a b = record {
    passed = [];
    owners_are = refl;
    walked = λ f ac bc. rw (taken_left-none (takes f ac bc Both) a, differ-false ac, differ-false bc) refl;
    weighs = omega arith;
  }

  more_pairs : (n : ℕ) (x y : K) (a b : List K) → StandsFirst order Both (x ∷ a) (y ∷ b) → Pairs order n a b → Pairs order (suc n) (x ∷ a) (y ∷ b)
  more_pairs n x y a b first pairs = record {
    passed = first.at_start.its_owners ++ pairs.passed;
    owners_are = first.at_start.owners_are ∙ ap (λ os. first.at_start.its_owners ++ os) pairs.owners_are
        ∙ sym (append_assoc first.at_start.its_owners pairs.passed _);
    walked = λ f ac bc.
        let t : Bool = takes f ac bc Both in
        let rest : List (Taken K) = walk f (differ ac (is_odd (suc n))) (differ bc (is_odd (suc n))) (owners order (drop n a) (drop n b)) in
        let after : walk f (not ac) (not bc) (owners order a b) ≡ taken_left t n a ++ rest =
        pairs.walked f (not ac) (not bc)
        ∙ ap₂ (λ ts os. ts ++ os) (ap (λ u. taken_left u n a) (takes-flipped f ac bc))
        (ap₂ (λ p q. walk f p q (owners order (drop n a) (drop n b)))
        (differ-not_both ac (is_odd n) ∙ ap (differ ac) (sym (is_odd-suc n)))
        (differ-not_both bc (is_odd n) ∙ ap (differ bc) (sym (is_odd-suc n)))) in
        first.at_start.walked f ac bc
        ∙ ap (λ ts. taken_left t 1 (x ∷ a) ++ ts) after
        ∙ sym (append_assoc (taken_left t 1 (x ∷ a)) (taken_left t n a) rest)
        ∙ ap (λ ts. ts ++ rest) (sym (taken_left-more t n x a));
    weighs = omega (arith, first.weighs, pairs.weighs, digits-one);
  }

  pairs_stand : (n : ℕ) (a b : List K) → IsAscending order a → IsAscending order b → ArePairs order n a b → Pairs order n a b
  pairs_stand zero a b a_ascends b_ascends pairs = no_pairs a b
  pairs_stand (suc n) [] b a_ascends b_ascends pairs = absurd (omega (arith, (pairs 0 (omega arith)).0))
  pairs_stand (suc n) (x ∷ a) [] a_ascends b_ascends pairs = absurd (omega (arith, (pairs 0 (omega arith)).1))
  pairs_stand (suc n) (x ∷ a) (y ∷ b) a_ascends b_ascends pairs =
      let first = pairs 0 (omega arith) in
      more_pairs n x y a b
      (stands_first o (x ∷ a) (y ∷ b) a_ascends b_ascends Both (runs-both o (x ∷ a) (y ∷ b) a_ascends b_ascends first.0 first.1 first.2))
      (pairs_stand n a b (AllPairs-drop (λ p q. order p q ≡ Less) 1 (x ∷ a) a_ascends) (AllPairs-drop (λ p q. order p q ≡ Less) 1 (y ∷ b) b_ascends)
      (λ i within. pairs (suc i) (omega arith)))

module _ {K : Type 0} {order : K → K → Ordering} (o : IsTotalOrder order) (n : ℕ) (l r : List K) (l_ascends : IsAscending order l) (r_ascends : IsAscending order r) (pairs : ArePairs order n l r) where
  -- n pairs weigh n
  pub weight-pairs : weight order l r ≡ n + weight order (drop n l) (drop n r)
  weight-pairs = (pairs_stand o n l r l_ascends r_ascends pairs).weighs

  -- an even number of pairs was taken or dropped, where a state that can stop doesn't at that
  pub Progress-pairs : (f : Table) (can_stop ac bc : Bool) (old new : List (Taken K) → Type 0) → is_odd n ≡ false → PairsGoOn f can_stop ac bc
      → ((before : List (Taken K)) → old before → new (before ++ taken_left (takes f ac bc Both) n l))
      → Progress order f can_stop l r ac bc old (drop n l) (drop n r) ac bc new
  Progress-pairs f can_stop ac bc old new even goes_on appends =
      let all : Pairs order n l r = pairs_stand o n l r l_ascends r_ascends pairs in
      record {
        done = taken_left (takes f ac bc Both) n l;
        splits = sym (all.walked f ac bc ∙ ap (λ os. taken_left (takes f ac bc Both) n l ++ os)
            (ap₂ (λ p q. walk f p q (owners order (drop n l) (drop n r)))
            (ap (differ ac) even ∙ differ-false ac) (ap (differ bc) even ∙ differ-false bc)));
        appended = appends;
        none_done = λ can. ap (λ t. taken_left t n l) (goes_on-untaken can_stop _ goes_on can);
        passed = all.passed;
        owners_are = all.owners_are;
      }

-- what is left of two lists after their first eight pairs
pub after-eight : {K : Type 0} (order : K → K → Ordering) (a b : List K) → ArePairs order 8 a b
    → (length (drop 8 a) + 8 ≡ length a) × (length (drop 8 b) + 8 ≡ length b)
after-eight order a b pairs =
    let last = pairs 7 (omega arith) in
    (omega (arith, last.0, length-drop 7 a, length-drop 8 a), omega (arith, last.1, length-drop 7 b, length-drop 8 b))

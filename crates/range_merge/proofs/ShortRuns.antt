-- Runs that are read item by item, with a look after each four: what they owe, and that they pay.
--     before run rs               a run that is being read, before the runs of what is unread
--     grown run how               the run that is being read after one more item
--     IsOwed m n owed             what is owed where n items of a run are read, m steps after a look
--     grown-pays                  one comparison for one more item
--     ended-pays                  a run that has ended at a look
use Rattle.std.proofs.Common.{◌≡◌, refl, ap, ◌∙◌, ℕ, zero, suc, ◌+◌, ◌*◌, ◌≤◌, Bool, true, false, List, [], ◌∷◌, Option, Some, None, arith}
use Rattle.std.specs.declared.cmp.Ordering.{Ordering}
use Rattle.std.specs.declared.cmp.Ordering.TheVariants.{Less, Equal, Greater}
use Rattle.range_merge.specs.Runs.{digits, run_len, weight_of}
use Rattle.range_merge.specs.OneRun.{one_of_run}
use Rattle.range_merge.specs.declared.runs.Run.{Run}
use Rattle.range_merge.specs.declared.runs.Run.TheVariants.{Left, Right, Both}
use Rattle.range_merge.specs.ShortRuns.{lefts_of, rights_of, IsLong}
use Rattle.range_merge.proofs.Digits.{digits-mono, digits-pow, weight_of-cons}

-- a run that is being read, before the runs of what is unread: it joins the first where that is of
-- its side
abbrev pub before : Option Run → List Run → List Run
before None rs = rs
before (Some (Left n)) (Left m ∷ rs) = Left (m + n) ∷ rs
before (Some (Left n)) rs = Left n ∷ rs
before (Some (Right n)) (Right m ∷ rs) = Right (m + n) ∷ rs
before (Some (Right n)) rs = Right n ∷ rs
before (Some Both) rs = Both ∷ rs

-- the run that is being read after one more item
abbrev pub grown : Option Run → Ordering → Run
grown (Some (Left n)) Less = Left (n + 1)
grown (Some (Right n)) Greater = Right (n + 1)
grown run how = one_of_run how

-- how many items of it were read
abbrev pub read_of : Option Run → ℕ
read_of None = 0
read_of (Some run) = run_len run

-- the next item is of the run that is being read
abbrev pub goes_on : Option Run → Ordering → Bool
goes_on (Some (Left n)) Less = true
goes_on (Some (Right n)) Greater = true
goes_on run how = false

-- a run of at most six items pays for one comparison an item
short-pays : (n : ℕ) → n ≤ 6 → n ≤ 2 * digits n
short-pays zero h = omega arith
short-pays (suc zero) h = omega (arith, digits-pow 0 1 (omega arith))
short-pays (suc (suc zero)) h = omega (arith, digits-pow 1 2 (omega arith))
short-pays (suc (suc (suc zero))) h = omega (arith, digits-pow 1 3 (omega arith))
short-pays (suc (suc (suc (suc n)))) h = omega (arith, digits-pow 2 (suc (suc (suc (suc n)))) (omega arith))

-- one of one to four items pays for one more
four-pays : (n : ℕ) → n ≤ 3 → suc n + 1 ≤ 2 * digits (suc n)
four-pays zero h = omega (arith, digits-pow 0 1 (omega arith))
four-pays (suc zero) h = omega (arith, digits-pow 1 2 (omega arith))
four-pays (suc (suc zero)) h = omega (arith, digits-pow 1 3 (omega arith))
four-pays (suc (suc (suc n))) h = omega (arith, digits-pow 2 (suc (suc (suc (suc n)))) (omega arith))

-- one item after another of one side: the run grows
grows-left : (n : ℕ) (rs : List Run) → before (Some (Left n)) (before (Some (Left 1)) rs) ≡ before (Some (Left (n + 1))) rs
grows-left n [] = ap (λ k. Left k ∷ []) (omega arith)
grows-left n (Left m ∷ rs) = ap (λ k. Left k ∷ rs) (omega arith)
grows-left n (Right m ∷ rs) = ap (λ k. Left k ∷ Right m ∷ rs) (omega arith)
grows-left n (Both ∷ rs) = ap (λ k. Left k ∷ Both ∷ rs) (omega arith)

grows-right : (n : ℕ) (rs : List Run) → before (Some (Right n)) (before (Some (Right 1)) rs) ≡ before (Some (Right (n + 1))) rs
grows-right n [] = ap (λ k. Right k ∷ []) (omega arith)
grows-right n (Right m ∷ rs) = ap (λ k. Right k ∷ rs) (omega arith)
grows-right n (Left m ∷ rs) = ap (λ k. Right k ∷ Left m ∷ rs) (omega arith)
grows-right n (Both ∷ rs) = ap (λ k. Right k ∷ Both ∷ rs) (omega arith)

-- an item of the other side: the run before it has ended
ends-left_right : (n : ℕ) (rs : List Run) → before (Some (Left n)) (before (Some (Right 1)) rs) ≡ Left n ∷ before (Some (Right 1)) rs
ends-left_right n [] = refl
ends-left_right n (Left m ∷ rs) = refl
ends-left_right n (Right m ∷ rs) = refl
ends-left_right n (Both ∷ rs) = refl

ends-right_left : (n : ℕ) (rs : List Run) → before (Some (Right n)) (before (Some (Left 1)) rs) ≡ Right n ∷ before (Some (Left 1)) rs
ends-right_left n [] = refl
ends-right_left n (Left m ∷ rs) = refl
ends-right_left n (Right m ∷ rs) = refl
ends-right_left n (Both ∷ rs) = refl

-- the runs of what is unread weigh no more than with the run that is being read before them
pub before-weighs : (r : Option Run) (rs : List Run) → weight_of rs ≤ weight_of (before r rs)
before-weighs None rs = omega arith
before-weighs (Some (Left n)) [] = omega (arith, weight_of-cons (Left n) [])
before-weighs (Some (Left n)) (Left m ∷ rs) = omega (arith, weight_of-cons (Left m) rs, weight_of-cons (Left (m + n)) rs, digits-mono m (m + n) (omega arith))
before-weighs (Some (Left n)) (Right m ∷ rs) = omega (arith, weight_of-cons (Left n) (Right m ∷ rs))
before-weighs (Some (Left n)) (Both ∷ rs) = omega (arith, weight_of-cons (Left n) (Both ∷ rs))
before-weighs (Some (Right n)) [] = omega (arith, weight_of-cons (Right n) [])
before-weighs (Some (Right n)) (Right m ∷ rs) = omega (arith, weight_of-cons (Right m) rs, weight_of-cons (Right (m + n)) rs, digits-mono m (m + n) (omega arith))
before-weighs (Some (Right n)) (Left m ∷ rs) = omega (arith, weight_of-cons (Right n) (Left m ∷ rs))
before-weighs (Some (Right n)) (Both ∷ rs) = omega (arith, weight_of-cons (Right n) (Both ∷ rs))
before-weighs (Some Both) rs = omega (arith, weight_of-cons Both rs)

-- what is owed m steps after a look, where n items of the run that is being read were read: one
-- comparison where its third or seventh item is read just at the next look
pub record IsOwed (m n owed : ℕ) : Type 0 where
  pub within : n ≤ m + 3
  pub late : n ≡ m + 3 → 1 ≤ owed
  pub early : n + 1 ≡ m → 1 ≤ owed

-- one item more costs one comparison, and leaves this to be owed
pub record IsPaid (m n n' owed whole rest : ℕ) : Type 0 where
  pub then_owed : ℕ
  pub is_owed : IsOwed (m + 1) n' then_owed
  pub pays : 2 * rest + n + 1 + then_owed ≤ 2 * whole + n' + owed

same : (m n owed whole rest : ℕ) {n' : ℕ} → n' ≡ n + 1 → whole ≡ rest → IsOwed m n owed → IsPaid m n n' owed whole rest
same m n owed whole rest more is h = record {
  then_owed = owed;
  is_owed = record {
    within = omega (arith, h.within, more);
    late = λ e. h.late (omega (arith, e, more));
    early = λ e. h.early (omega (arith, e, more));
  };
  pays = omega (arith, more, is);
}

ended_first : (n owed whole rest : ℕ) → whole ≡ digits n + rest → IsOwed 1 n owed → 2 * rest + n + 1 + 1 ≤ 2 * whole + 1 + owed
ended_first zero owed whole rest is h = omega (arith, is, h.early (omega arith))
ended_first (suc n) owed whole rest is h = omega (arith, is, four-pays n (omega (arith, h.within)))

ended : (m n owed whole rest : ℕ) → m ≤ 3 → whole ≡ digits n + rest → IsOwed m n owed → IsPaid m n 1 owed whole rest
ended zero n owed whole rest few is h = record {
  then_owed = 0;
  is_owed = record { within = omega arith; late = λ e. absurd (omega (arith, e)); early = λ e. absurd (omega (arith, e)) };
  pays = omega (arith, is, short-pays n (omega (arith, h.within)));
}
ended (suc zero) n owed whole rest few is h = record {
  then_owed = 1;
  is_owed = record { within = omega arith; late = λ e. omega arith; early = λ e. omega arith };
  pays = ended_first n owed whole rest is h;
}
ended (suc (suc m)) n owed whole rest few is h = record {
  then_owed = 0;
  is_owed = record { within = omega arith; late = λ e. absurd (omega (arith, e)); early = λ e. absurd (omega (arith, e)) };
  pays = omega (arith, is, short-pays n (omega (arith, h.within, few)));
}

-- a run that has ended, before one more item
other : (r : Run) (all rest : List Run) (m owed : ℕ) → m ≤ 3 → all ≡ r ∷ rest → IsOwed m (run_len r) owed → IsPaid m (run_len r) 1 owed (weight_of all) (weight_of rest)
other r all rest m owed few is h = ended m (run_len r) owed (weight_of all) (weight_of rest) few (ap weight_of is ∙ weight_of-cons r rest) h

-- one comparison for one item keeps within twice the weight
pub grown-pays : (r : Option Run) (how : Ordering) (rs : List Run) (m owed : ℕ) → m ≤ 3 → IsOwed m (read_of r) owed
    → IsPaid m (read_of r) (run_len (grown r how)) owed (weight_of (before r (before (Some (one_of_run how)) rs))) (weight_of (before (Some (grown r how)) rs))
grown-pays None Less rs m owed few h = same m 0 owed _ _ (omega arith) refl h
grown-pays None Equal rs m owed few h = same m 0 owed _ _ (omega arith) refl h
grown-pays None Greater rs m owed few h = same m 0 owed _ _ (omega arith) refl h
grown-pays (Some (Left n)) Less rs m owed few h = same m n owed _ _ refl (ap weight_of (grows-left n rs)) h
grown-pays (Some (Left n)) Equal rs m owed few h = other (Left n) _ _ m owed few refl h
grown-pays (Some (Left n)) Greater rs m owed few h = other (Left n) _ _ m owed few (ends-left_right n rs) h
grown-pays (Some (Right n)) Less rs m owed few h = other (Right n) _ _ m owed few (ends-right_left n rs) h
grown-pays (Some (Right n)) Equal rs m owed few h = other (Right n) _ _ m owed few refl h
grown-pays (Some (Right n)) Greater rs m owed few h = same m n owed _ _ refl (ap weight_of (grows-right n rs)) h
grown-pays (Some Both) Less rs m owed few h = other Both _ _ m owed few refl h
grown-pays (Some Both) Equal rs m owed few h = other Both _ _ m owed few refl h
grown-pays (Some Both) Greater rs m owed few h = other Both _ _ m owed few refl h

-- at a look a run of at most seven items that has ended paid for them
seven-pays : (n owed : ℕ) → IsOwed 4 n owed → n ≤ 2 * digits n + owed
seven-pays (suc (suc (suc (suc (suc (suc (suc n))))))) owed h =
    omega (arith, h.within, h.late (omega (arith, h.within)), digits-pow 2 (suc (suc (suc (suc (suc (suc (suc n))))))) (omega arith))
seven-pays zero owed h = omega (arith, short-pays 0 (omega arith))
seven-pays (suc zero) owed h = omega (arith, short-pays 1 (omega arith))
seven-pays (suc (suc zero)) owed h = omega (arith, short-pays 2 (omega arith))
seven-pays (suc (suc (suc zero))) owed h = omega (arith, short-pays 3 (omega arith))
seven-pays (suc (suc (suc (suc zero)))) owed h = omega (arith, short-pays 4 (omega arith))
seven-pays (suc (suc (suc (suc (suc zero))))) owed h = omega (arith, short-pays 5 (omega arith))
seven-pays (suc (suc (suc (suc (suc (suc zero)))))) owed h = omega (arith, short-pays 6 (omega arith))

ended_at_look : (r : Run) (all rest : List Run) (owed : ℕ) → all ≡ r ∷ rest → IsOwed 4 (run_len r) owed → 2 * weight_of rest + run_len r ≤ 2 * weight_of all + owed
ended_at_look r all rest owed is h = omega (arith, ap weight_of is, weight_of-cons r rest, seven-pays (run_len r) owed h)

pub ended-pays : (r : Option Run) (next : Ordering) (rs : List Run) (owed : ℕ) → goes_on r next ≡ false → IsOwed 4 (read_of r) owed
    → 2 * weight_of (before (Some (one_of_run next)) rs) + read_of r ≤ 2 * weight_of (before r (before (Some (one_of_run next)) rs)) + owed
ended-pays None next rs owed ends h = omega arith
ended-pays (Some (Left n)) Less rs owed ends h = absurd cc
ended-pays (Some (Left n)) Equal rs owed ends h = ended_at_look (Left n) _ _ owed refl h
ended-pays (Some (Left n)) Greater rs owed ends h = ended_at_look (Left n) _ _ owed (ends-left_right n rs) h
ended-pays (Some (Right n)) Less rs owed ends h = ended_at_look (Right n) _ _ owed (ends-right_left n rs) h
ended-pays (Some (Right n)) Equal rs owed ends h = ended_at_look (Right n) _ _ owed refl h
ended-pays (Some (Right n)) Greater rs owed ends h = absurd cc
ended-pays (Some Both) next rs owed ends h = ended_at_look Both _ _ owed refl h

-- the items since a look, of the left and of the right: where all of them are of the run that is
-- being read, the other side has none
abbrev pub IsBack : ℕ → ℕ → ℕ → Option Run → Type 0
IsBack m di dj None = Unit {0}
IsBack m di dj (Some (Left n)) = m ≤ n → dj ≡ 0
IsBack m di dj (Some (Right n)) = m ≤ n → di ≡ 0
IsBack m di dj (Some Both) = Unit {0}

pub record IsSince (m di dj : ℕ) (run : Option Run) : Type 0 where
  pub none : m ≡ 0 → di + dj ≡ 0
  pub back : IsBack m di dj run

IsBack-more : (r : Option Run) (how : Ordering) (m di dj : ℕ) → (m ≡ 0 → di + dj ≡ 0) → IsBack m di dj r → IsBack (m + 1) (di + lefts_of how) (dj + rights_of how) (Some (grown r how))
IsBack-more None Less m di dj none h = λ e. omega (arith, none (omega (arith, e)))
IsBack-more None Equal m di dj none h = tt
IsBack-more None Greater m di dj none h = λ e. omega (arith, none (omega (arith, e)))
IsBack-more (Some (Left n)) Less m di dj none h = λ e. omega (arith, h (omega (arith, e)))
IsBack-more (Some (Left n)) Equal m di dj none h = tt
IsBack-more (Some (Left n)) Greater m di dj none h = λ e. omega (arith, none (omega (arith, e)))
IsBack-more (Some (Right n)) Less m di dj none h = λ e. omega (arith, none (omega (arith, e)))
IsBack-more (Some (Right n)) Equal m di dj none h = tt
IsBack-more (Some (Right n)) Greater m di dj none h = λ e. omega (arith, h (omega (arith, e)))
IsBack-more (Some Both) Less m di dj none h = λ e. omega (arith, none (omega (arith, e)))
IsBack-more (Some Both) Equal m di dj none h = tt
IsBack-more (Some Both) Greater m di dj none h = λ e. omega (arith, none (omega (arith, e)))

pub IsSince-more : (r : Option Run) (how : Ordering) (m di dj : ℕ) → IsSince m di dj r → IsSince (m + 1) (di + lefts_of how) (dj + rights_of how) (Some (grown r how))
IsSince-more r how m di dj h = record {
  none = λ e. absurd (omega (arith, e));
  back = IsBack-more r how m di dj h.none h.back;
}

-- at a look: nothing was read since
IsBack-none : (r : Option Run) → IsBack 0 0 0 r
IsBack-none None = tt
IsBack-none (Some (Left n)) = λ e. refl
IsBack-none (Some (Right n)) = λ e. refl
IsBack-none (Some Both) = tt

pub IsSince-none : (r : Option Run) → IsSince 0 0 0 r
IsSince-none r = record { none = λ e. omega arith; back = IsBack-none r }

-- at a look a run of four items or more has ended, if it isn't long
not_long : (r : Option Run) (di dj : ℕ) (next : Ordering) → (dj ≡ 0 → next ≡ Less → ⊥) → (di ≡ 0 → next ≡ Greater → ⊥) → IsSince 4 di dj r → 4 ≤ read_of r → goes_on r next ≡ false
not_long None di dj next left right h four = refl
not_long (Some (Left n)) di dj Less left right h four = absurd (left (h.back four) refl)
not_long (Some (Left n)) di dj Equal left right h four = refl
not_long (Some (Left n)) di dj Greater left right h four = refl
not_long (Some (Right n)) di dj Less left right h four = refl
not_long (Some (Right n)) di dj Equal left right h four = refl
not_long (Some (Right n)) di dj Greater left right h four = absurd (right (h.back four) refl)
not_long (Some Both) di dj next left right h four = refl

pub ended-at : (next : Ordering) (r : Option Run) (di dj i0 j0 i j : ℕ) → i ≡ i0 + di → j ≡ j0 + dj → (IsLong next i0 j0 i j → ⊥) → IsSince 4 di dj r → 4 ≤ read_of r → goes_on r next ≡ false
ended-at Less r di dj i0 j0 i j i_is j_is ends h four = not_long r di dj Less (λ e _. ends (omega (arith, j_is, e))) (λ _ is. absurd cc) h four
ended-at Equal r di dj i0 j0 i j i_is j_is ends h four = not_long r di dj Equal (λ _ is. absurd cc) (λ _ is. absurd cc) h four
ended-at Greater r di dj i0 j0 i j i_is j_is ends h four = not_long r di dj Greater (λ _ is. absurd cc) (λ e _. ends (omega (arith, i_is, e))) h four

-- Work that a comparer has done by another one: what it costs, and what is left undone.
--     made-more, made-few, made-costs   how many comparisons another one made
--     IsReadInto-none                   nothing was read
--     Progress-put                      what was read, behind what an output was given
use Rattle.std.proofs.Common.{◌≡◌, refl, ℕ, ◌+◌, ◌-◌, ◌*◌, ◌^◌, ◌<◌, ◌≤◌, Bool, false, List, [], ◌++◌, length, drop, Some, arith}
use Rattle.std.specs.List.{AllZip}
use Rattle.std.specs.declared.cmp.Ordering.{Ordering}
use Rattle.range_merge.specs.Changes.{Taken, taken_items}
use Rattle.range_merge.specs.Connective.{Table}
use Rattle.range_merge.specs.Copies.{AreCopies}
use Rattle.range_merge.specs.Stages.{Progress}
use Rattle.range_merge.specs.Reading.{IsReadInto}
use Rattle.range_merge.specs.OneRun.{FirstsStand}
use Rattle.range_merge.proofs.CopiesLemmas.{AreCopies-items}
use Rattle.range_merge.proofs.MergeLoop.{Progress-none}

pub made-more : (m n : ℕ) → m ≤ n → n ≡ m + (n - m)
made-more m n more = omega (arith, more)

pub made-few : (m n all rest len : ℕ) → n + 2 * rest ≤ m + 2 * all + 6 → all ≤ len → len < 2 ^ 65 → n - m < 2 ^ 127
made-few m n all rest len cost weighs short = omega (arith, cost, weighs, short)

pub made-costs : (m n all rest : ℕ) → m ≤ n → n + 2 * rest ≤ m + 2 * all + 6 → (n - m) + 2 * rest ≤ 2 * all + 6
made-costs m n all rest more cost = omega (arith, more, cost)

module _ {K : Type 0} (order : K → K → Ordering) (a b : List K) where
  pub IsReadInto-none : (i j : ℕ) (f : Table) (next : Ordering) {L By : Type 0} (can_stop : Bool) (may_be : L → ℕ → List (Taken K) → Type 0)
      (fixed : L → By → ℕ) (fits has_room : L → ℕ → Type 0) (output : L) → FirstsStand order (drop i a) (drop j b) (Some next) → fits output (length (drop i a) + length (drop j b))
      → IsReadInto order a b i j i j f next can_stop may_be fixed fits has_room output output
  IsReadInto-none i j f next can_stop may_be fixed fits has_room output stands its = record {
    lefts = omega arith;
    rights = omega arith;
    progress = λ _. Progress-none;
    stands = stands;
    stays = λ _. refl;
    still_fits = its;
    still_room = λ has. has;
  }

-- what was read, put behind what an output was given
pub Progress-put : {K : Type 0} (alike : K → K → Type 0) (order : K → K → Ordering) (f : Table) {l0 r0 l r : List K} {ac0 bc0 ac bc : Bool} (old new : List (Taken K) → Type 0) (out : List K)
    → ((before ts : List (Taken K)) → AllZip alike (taken_items ts) out → old before → new (before ++ ts))
    → Progress order f false l0 r0 ac0 bc0 (λ ts. AreCopies alike ts []) l r ac bc (λ ts. AreCopies alike ts out) → Progress order f false l0 r0 ac0 bc0 old l r ac bc new
Progress-put alike order f old new out puts h = record {
  done = h.done;
  splits = h.splits;
  appended = λ before so_far. puts before h.done (AreCopies-items alike h.done out (h.appended [] tt)) so_far;
  none_done = λ stops. absurd cc;
  passed = h.passed;
  owners_are = h.owners_are;
}

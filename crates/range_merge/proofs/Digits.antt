-- The number of binary digits, and the weight of runs.
--     digits-suc, digits-le, digits-mono      how many digits a number has
--     weight_of-cons                          the weight of a run and of the rest
--     weight-le                               the weight is at most the lengths
use Rattle.std.proofs.Common.{◌≡◌, refl, ap, ℕ, zero, suc, ◌+◌, ◌*◌, ◌/◌, ◌^◌, ◌<◌, ◌≤◌, List, [], ◌∷◌, length, map, inl, inr, eq-zero-or-pos, arith}
use Rattle.std.proofs.lemmas.Int.Digits.{length-digits_of_step}
use Rattle.std.proofs.lemmas.List.Sums.{sum_by-cons}
use Rattle.std.proofs.lemmas.Nat.{pow_pos}
use Rattle.std.proofs.Math.Nat.{pow-suc}
use Rattle.std.proofs.lemmas.List.{length-map}
use Rattle.std.specs.declared.cmp.Ordering.{Ordering}
use Rattle.std.specs.declared.cmp.Ordering.TheVariants.{Less, Equal, Greater}
use Rattle.range_merge.specs.Owners.{Owner, left_only, right_only, shared, item_of, with_right_at, with_right, owners}
use Rattle.range_merge.specs.Runs.{digits, run_len, joined, runs_of, weight_of, runs, weight}
use Rattle.range_merge.specs.declared.runs.Run.{Run}
use Rattle.range_merge.specs.declared.runs.Run.TheVariants.{Left, Right, Both}

pub digits-zero : digits 0 ≡ 0
unfolding digits
digits-zero = refl

pub digits-suc : (n : ℕ) → 0 < n → digits n ≡ digits (n / 2) + 1
unfolding digits
digits-suc n some = length-digits_of_step 2 n (omega arith) some

-- by induction on a bound, as a half is below the number
digits-le_under : (f n : ℕ) → n ≤ f → digits n ≤ n
digits-le_under zero n h = let e : n ≡ 0 = omega arith in rw e (omega (arith, digits-zero))
digits-le_under (suc f) n h = elim (eq-zero-or-pos n) as (λ _. digits n ≤ n) [
  | inl e ↦ rw e (omega (arith, digits-zero))
  | inr p ↦ omega (arith, digits-suc n p, digits-le_under f (n / 2) (omega arith))
]

pub digits-le : (n : ℕ) → digits n ≤ n
digits-le n = digits-le_under n n (omega arith)

digits-mono_under : (f m n : ℕ) → m ≤ f → m ≤ n → digits m ≤ digits n
digits-mono_under zero m n h k = let e : m ≡ 0 = omega arith in rw e (omega (arith, digits-zero))
digits-mono_under (suc f) m n h k = elim (eq-zero-or-pos m) as (λ _. digits m ≤ digits n) [
  | inl e ↦ rw e (omega (arith, digits-zero))
  | inr p ↦ omega (arith, digits-suc m p, digits-suc n (omega arith), digits-mono_under f (m / 2) (n / 2) (omega arith) (omega arith))
]

pub digits-mono : (m n : ℕ) → m ≤ n → digits m ≤ digits n
digits-mono m n h = digits-mono_under m m n (omega arith) h

-- at most half of a number has a digit less
pub digits-half : (m n : ℕ) → 0 < n → m ≤ n / 2 → digits m + 1 ≤ digits n
digits-half m n some half = omega (arith, digits-suc n some, digits-mono m (n / 2) half)

pub digits-double : (n : ℕ) → 0 < n → digits (2 * n) ≡ digits n + 1
digits-double n some =
    let e : (2 * n) / 2 ≡ n = omega arith in
    omega (arith, digits-suc (2 * n) (omega arith), ap digits e)

pub digits-double_and_one : (n : ℕ) → digits (2 * n + 1) ≡ digits n + 1
digits-double_and_one n =
    let e : (2 * n + 1) / 2 ≡ n = omega arith in
    omega (arith, digits-suc (2 * n + 1) (omega arith), ap digits e)

-- a number from a power of two on has a digit more than the exponent says
pub digits-pow : (b n : ℕ) → 2 ^ b ≤ n → b + 1 ≤ digits n
digits-pow zero n h = omega (arith, digits-half 0 n (omega arith) (omega arith))
digits-pow (suc b) n h =
    let double : 2 ^ suc b ≡ 2 ^ b * 2 = pow-suc 2 b in
    omega (arith, digits-suc n (omega (arith, pow_pos b)), digits-pow b (n / 2) (omega arith))

-- the first run's weight and that of the rest
pub weight_of-cons : (r : Run) (rs : List Run) → weight_of (r ∷ rs) ≡ digits (run_len r) + weight_of rs
unfolding weight_of
weight_of-cons r rs = sum_by-cons (λ (n : ℕ). n) (digits (run_len r)) (map (λ (q : Run). digits (run_len q)) rs)

pub weight_of-nil : weight_of [] ≡ 0
unfolding weight_of
weight_of-nil = refl

-- how many items the runs have, a shared one counted once
abbrev pub total_len : List Run → ℕ
total_len [] = 0
total_len (r ∷ rs) = run_len r + total_len rs

pub weight_of-le : (rs : List Run) → weight_of rs ≤ total_len rs
weight_of-le [] = omega (arith, weight_of-nil)
weight_of-le (r ∷ rs) = omega (arith, weight_of-cons r rs, digits-le (run_len r), weight_of-le rs)

module _ {K : Type 0} where
  pub total_len-joined : (p : Owner K) (rs : List Run) → total_len (joined p rs) ≡ total_len rs + 1
  total_len-joined (left_only x) [] = omega arith
  total_len-joined (left_only x) (Left n ∷ rs) = omega arith
  total_len-joined (left_only x) (Right n ∷ rs) = omega arith
  total_len-joined (left_only x) (Both ∷ rs) = omega arith
  total_len-joined (right_only y) [] = omega arith
  total_len-joined (right_only y) (Left n ∷ rs) = omega arith
  total_len-joined (right_only y) (Right n ∷ rs) = omega arith
  total_len-joined (right_only y) (Both ∷ rs) = omega arith
  total_len-joined (shared x y) rs = omega arith

  -- the runs have as many items as there are owners
  pub total_len-runs_of : (os : List (Owner K)) → total_len (runs_of os) ≡ length os
  unfolding runs_of
  total_len-runs_of [] = refl
  total_len-runs_of (p ∷ os) = omega (arith, total_len-joined p (runs_of os), total_len-runs_of os)

  module _ (order : K → K → Ordering) where
    length-with_right_at : (r : Ordering) (y : K) (p : Owner K) (os after : List (Owner K)) → length after ≤ length os + 1 →
        length (with_right_at order r y p os after) ≤ length (p ∷ os) + 1
    length-with_right_at Less y p os after h = omega arith
    length-with_right_at Equal y p os after h = omega arith
    length-with_right_at Greater y p os after h = omega arith

    -- an item of the right adds an owner at most
    length-with_right : (y : K) (os : List (Owner K)) → length (with_right order y os) ≤ length os + 1
    unfolding with_right
    length-with_right y [] = omega arith
    length-with_right y (p ∷ os) = length-with_right_at (order y (item_of p)) y p os (with_right order y os) (length-with_right y os)

    -- there are at most as many owners as items of both lists
    pub length-owners : (a b : List K) → length (owners order a b) ≤ length a + length b
    unfolding owners
    length-owners a [] = omega (arith, length-map a (λ (x : K). left_only x))
    length-owners a (y ∷ b) = omega (arith, length-with_right y (owners order a b), length-owners a b)

    -- the weight of any two lists is at most their lengths together
    pub weight-le : (a b : List K) → weight order a b ≤ length a + length b
    weight-le a b = omega (arith, weight_of-le (runs order a b), total_len-runs_of (owners order a b), length-owners a b)

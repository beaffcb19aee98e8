-- Odd numbers, and truths that differ.
use Rattle.std.proofs.Common.{◌≡◌, ℕ, zero, suc, ◌+◌, ◌%◌, ◌<◌, ◌==◌, Bool, true, false, not, cond, refl, sym, ap, ◌∙◌, arith}
use Rattle.std.proofs.Math.Bool.{beq}
use Rattle.std.proofs.Math.Nat.{suc-mod}
use Rattle.range_merge.specs.Boundaries.{is_odd}
use Rattle.range_merge.specs.Connective.{differ}

odd_after : (m : ℕ) → m < 2 → is_odd (suc m) ≡ not (m == 1)
odd_after zero h = refl
odd_after (suc zero) h = refl
odd_after (suc (suc m)) h = absurd (omega arith)

pub is_odd-suc : (n : ℕ) → is_odd (suc n) ≡ not (is_odd n)
is_odd-suc n = ap (λ m. m == 1) (suc-mod n 2) ∙ odd_after (n % 2) (omega arith)

pub is_odd-cond : (b : Bool) (n : ℕ) → is_odd (cond b (suc n) n) ≡ differ b (is_odd n)
is_odd-cond true n = is_odd-suc n
is_odd-cond false n = refl

pub unequal-differ : (a b : Bool) → not (beq a b) ≡ differ a b
unequal-differ true true = refl
unequal-differ true false = refl
unequal-differ false true = refl
unequal-differ false false = refl

pub differ-not_left : (a b : Bool) → differ (not a) b ≡ not (differ a b)
differ-not_left true true = refl
differ-not_left true false = refl
differ-not_left false b = refl

pub differ-not_right : (a b : Bool) → differ a (not b) ≡ not (differ a b)
differ-not_right true b = refl
differ-not_right false b = refl

pub differ-not_both : (a b : Bool) → differ (not a) b ≡ differ a (not b)
differ-not_both a b = differ-not_left a b ∙ sym (differ-not_right a b)

pub differ-comm : (a b : Bool) → differ a b ≡ differ b a
differ-comm true true = refl
differ-comm true false = refl
differ-comm false true = refl
differ-comm false false = refl

pub differ-false : (a : Bool) → differ a false ≡ a
differ-false true = refl
differ-false false = refl

pub differ-self : (a : Bool) → differ a a ≡ false
differ-self true = refl
differ-self false = refl

pub differ-assoc : (a b c : Bool) → differ (differ a b) c ≡ differ a (differ b c)
differ-assoc true b c = differ-not_left b c
differ-assoc false b c = refl

-- what lies between drops out
pub differ-trans : (a b c : Bool) → differ (differ a b) (differ b c) ≡ differ a c
differ-trans true true c = refl
differ-trans true false c = refl
differ-trans false true true = refl
differ-trans false true false = refl
differ-trans false false c = refl

pub is_odd-add : (m n : ℕ) → is_odd (m + n) ≡ differ (is_odd m) (is_odd n)
is_odd-add zero n = ap is_odd (zero_add n)
  where
    zero_add : (n : ℕ) → 0 + n ≡ n
    zero_add n = omega arith
is_odd-add (suc m) n =
    ap is_odd (suc_add m n) ∙ is_odd-suc (m + n) ∙ ap not (is_odd-add m n) ∙ sym (differ-not_left (is_odd m) (is_odd n)) ∙ ap (λ b. differ b (is_odd n)) (sym (is_odd-suc m))
  where
    suc_add : (m n : ℕ) → suc m + n ≡ suc (m + n)
    suc_add m n = omega arith

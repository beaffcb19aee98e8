-- Values in a row: the places of whole numbers and of characters, from 0 on.
--     signed_place half z         how many whole numbers from -half on are below z
--     signed_value half n         the whole number with n others from -half on below it
--     char_value n                the code of the character with n characters below it
use Rattle.std.specs.Prelude.{◌≡◌, ℕ, ◌+◌, ◌-◌, ◌<◌, ℤ, pos, negsuc, cond, nat_lt, refl}
use Rattle.std.specs.Char.{IsScalar, scalar_index}
use Rattle.std.specs.Ordering.{nat_cmp, int_cmp}
use Rattle.std.proofs.Common.{arith, inl, inr, true, false}
use Rattle.std.proofs.Math.Utf8.{scalar_cases}
use Rattle.std.proofs.lemmas.Bool.Decides.{nat_tests}
use lib.Signed.{mag}

-- how many whole numbers from -half on are below z
abbrev pub signed_place : ℕ → ℤ → ℕ
signed_place half (pos a) = half + a
signed_place half (negsuc a) = half - (a + 1)

-- the whole number with n others from -half on below it
abbrev pub signed_value : ℕ → ℕ → ℤ
signed_value half n = cond (nat_lt n half) (negsuc (half - (n + 1))) (pos (n - half))

-- the code of the character with n characters below it: after the first 0xD800 the surrogates are
-- left out
abbrev pub char_value : ℕ → ℕ
char_value n = cond (nat_lt n 0xD800) n (n + 0x800)

pub signed_place-fits : (half : ℕ) (z : ℤ) → mag z < half → signed_place half z < half + half
signed_place-fits half (pos a) h = omega arith
signed_place-fits half (negsuc a) h = omega arith

pub signed_place-value : (half n : ℕ) → n < half + half →
    signed_place half (signed_value half n) ≡ n
signed_place-value half n h = by_test (nat_lt n half) refl
  where
    by_test : (t : _) → nat_lt n half ≡ t →
        signed_place half (cond t (negsuc (half - (n + 1))) (pos (n - half))) ≡ n
    by_test true e = grind (arith, nat_tests)
    by_test false e = grind (arith, nat_tests)

pub signed_value-fits : (half n : ℕ) → n < half + half → mag (signed_value half n) < half
signed_value-fits half n h = by_test (nat_lt n half) refl
  where
    by_test : (t : _) → nat_lt n half ≡ t →
        mag (cond t (negsuc (half - (n + 1))) (pos (n - half))) < half
    by_test true e = grind (arith, nat_tests)
    by_test false e = grind (arith, nat_tests)

pub signed_place-order : (half : ℕ) (x y : ℤ) → mag x < half → mag y < half →
    int_cmp x y ≡ nat_cmp (signed_place half x) (signed_place half y)
signed_place-order half (pos a) (pos b) h k = grind (arith, nat_tests)
signed_place-order half (pos a) (negsuc b) h k = grind (arith, nat_tests)
signed_place-order half (negsuc a) (pos b) h k = grind (arith, nat_tests)
signed_place-order half (negsuc a) (negsuc b) h k = grind (arith, nat_tests)

pub scalar_index-fits : (c : ℕ) → IsScalar c → scalar_index c < 0x10F800
scalar_index-fits c h =
    elim (scalar_cases c h) as (λ _. scalar_index c < 0x10F800) [
      | inl low ↦ omega (arith, low)
      | inr high ↦ omega (arith, high.0, high.1)
    ]

pub scalar_index-char_value : (n : ℕ) → n < 0x10F800 → scalar_index (char_value n) ≡ n
scalar_index-char_value n h = by_test (nat_lt n 0xD800) refl
  where
    by_test : (t : _) → nat_lt n 0xD800 ≡ t → scalar_index (cond t n (n + 0x800)) ≡ n
    by_test true e = grind (arith, nat_tests)
    by_test false e = grind (arith, nat_tests)

pub char_value-scalar : (n : ℕ) → n < 0x10F800 → IsScalar (char_value n)
char_value-scalar n h = grind (arith, nat_tests)

pub scalar_index-order : (c e : ℕ) → IsScalar c → IsScalar e →
    nat_cmp c e ≡ nat_cmp (scalar_index c) (scalar_index e)
scalar_index-order c e h k = grind (arith, nat_tests, scalar_cases)

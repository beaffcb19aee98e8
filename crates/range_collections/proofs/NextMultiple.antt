-- The next of a number's multiples from a place on.
use Rattle.std.proofs.Common.{◌≡◌, ◌↔◌, sym, ap, ◌∙◌, ℕ, suc, inl, inr, ◌<◌, ◌≤◌, ◌+◌, ◌-◌, ◌*◌, ◌/◌, ◌%◌, arith}
use Rattle.std.proofs.Math.Nat.{mod-lt, mod-one, mul-mod_left, mul-le-mul_right, div-add-mod', add-mul-mod_self_right}
use Rattle.std.proofs.lemmas.Bool.{cases_lt}
use Rattle.std.proofs.lemmas.Nat.{mod-mul-add}
use Rattle.range_collections.specs.Fits.{IsMultiple, IsOneOf}
use Rattle.range_collections.specs.declared.countable.multiples.Multiples.{Multiples}

-- each place is a multiple of 1
pub each_multiple : (m : Multiples) → m.of ≡ 1 → (n : ℕ) → IsOneOf m n
each_multiple m one n = ap (λ k. n % k) one ∙ mod-one n ∙ sym (ap (λ k. m.zero % k) one ∙ mod-one m.zero)

-- of two multiples, one that is past the other is past it by the number or more
pub IsMultiple-least : (z b x n : ℕ) → IsMultiple z b x → IsMultiple z b n → x < n + b → x ≤ n
IsMultiple-least z b x n one other near =
    elim (cases_lt (n / b) (x / b)) as (λ _. x ≤ n) [
      | inl less ↦
          let more : suc (n / b) * b ≤ x / b * b = mul-le-mul_right b less in
          absurd (omega (arith, more, div-add-mod' n b, div-add-mod' x b, one, other, near))
      | inr most ↦
          let no_more : x / b * b ≤ n / b * b = mul-le-mul_right b most in
          omega (arith, no_more, div-add-mod' n b, div-add-mod' x b, one, other)
    ]

-- from a place that isn't above that of 0
pub ahead-below : (z b at : ℕ) → at ≤ z → IsMultiple z b (at + (z - at) % b)
ahead-below z b at low =
    let q : ℕ = (z - at) / b in
    sym (add-mul-mod_self_right (at + (z - at) % b) q b)
    ∙ ap (λ k. k % b) (omega (arith, div-add-mod' (z - at) b, low))

-- from a place above it, which is one
pub ahead-none : (z b at : ℕ) → z ≤ at → (at - z) % b ≡ 0 → IsMultiple z b (at + 0)
ahead-none z b at high none =
    ap (λ k. k % b) (omega (arith, div-add-mod' (at - z) b, none, high))
    ∙ add-mul-mod_self_right z ((at - z) / b) b

-- from another one
pub ahead-above : (z b at : ℕ) → z ≤ at → 0 < b → IsMultiple z b (at + (b - (at - z) % b))
ahead-above z b at high some =
    let q : ℕ = (at - z) / b in
    let less : (at - z) % b < b = mod-lt (at - z) some in
    ap (λ k. k % b) (omega (arith, div-add-mod' (at - z) b, less, high))
    ∙ add-mul-mod_self_right z (suc q) b

-- the multiples of a number among the values of a type
pub IsOneOf-among : (m : Multiples) (z b : ℕ) → m.of ≡ b → m.zero ≡ z → (n : ℕ) → IsMultiple z b n → IsOneOf m n
IsOneOf-among m z b of from n one = rw (of) (rw (from) one)

pub IsMultiple-among : (m : Multiples) (z b : ℕ) → m.of ≡ b → m.zero ≡ z → (n : ℕ) → IsOneOf m n → IsMultiple z b n
IsMultiple-among m z b of from n one = rw (← of) (rw (← from) one)

-- a number and one that is more by a multiple
alike-more : (n x d : ℕ) → d % n ≡ 0 → x % n ≡ (x + d) % n
alike-more n x d none =
    sym (add-mul-mod_self_right x (d / n) n) ∙ ap (λ k. k % n) (omega (arith, div-add-mod' d n, none))

more-alike : (n x d : ℕ) → x % n ≡ (x + d) % n → d % n ≡ 0
more-alike n x d alike =
    elim (cases_lt ((x + d) / n) (x / n)) as (λ _. d % n ≡ 0) [
      | inl less ↦
          let more : suc ((x + d) / n) * n ≤ x / n * n = mul-le-mul_right n less in
          let none : d ≡ 0 * n = omega (arith, more, div-add-mod' x n, div-add-mod' (x + d) n, alike) in
          ap (λ k. k % n) none ∙ mul-mod_left 0 n
      | inr from ↦
          let j : ℕ = (x + d) / n - x / n in
          let sum : (x + d) / n ≡ x / n + j = omega (arith, from) in
          let times = ap (λ k. k * n) sum in
          let is : d ≡ j * n = omega (arith, times, div-add-mod' x n, div-add-mod' (x + d) n, alike) in
          ap (λ k. k % n) is ∙ mul-mod_left j n
    ]

-- numbers with a sign
pub IsMultiple-from_0 : (half n a : ℕ) → 0 < n → IsMultiple half n (half + a) ↔ (a % n ≡ 0)
IsMultiple-from_0 half n a some = (λ one. more-alike n half a (sym one), λ none. sym (alike-more n half a none))

last : (n a : ℕ) → 0 < n → ((suc a % n ≡ 0) ↔ (n - 1 - a % n ≡ 0))
last n a some = (first, second)
  where
    less : a % n < n
    less = mod-lt a some

    first : suc a % n ≡ 0 → n - 1 - a % n ≡ 0
    first none =
        elim (cases_lt (suc (a % n)) n) as (λ _. n - 1 - a % n ≡ 0) [
          | inl short ↦
              let is : suc a ≡ a / n * n + suc (a % n) = omega (arith, div-add-mod' a n) in
              absurd (omega (arith, sym (ap (λ k. k % n) is ∙ mod-mul-add (a / n) n (suc (a % n)) short) ∙ none))
          | inr full ↦ omega (arith, full)
        ]

    second : n - 1 - a % n ≡ 0 → suc a % n ≡ 0
    second none =
        let is : suc a ≡ suc (a / n) * n = omega (arith, div-add-mod' a n, less, none) in
        ap (λ k. k % n) is ∙ mul-mod_left (suc (a / n)) n

pub IsMultiple-below_0 : (half n a : ℕ) → 0 < n → a < half → IsMultiple half n (half - (a + 1)) ↔ (n - 1 - a % n ≡ 0)
IsMultiple-below_0 half n a some less = (
  λ one. (last n a some).0 (more-alike n (half - (a + 1)) (suc a) (one ∙ ap (λ k. k % n) (omega (arith, less)))),
  λ none. alike-more n (half - (a + 1)) (suc a) ((last n a some).1 none) ∙ ap (λ k. k % n) (omega (arith, less)),
)

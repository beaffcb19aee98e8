-- Numbers in decimal digits are read back.
use Rattle.std.proofs.Common.{◌≡◌, ◌≢◌, refl, sym, ap, ◌∙◌, ℕ, suc, ◌^◌, ◌<◌, ◌≤◌, ◌==◌, ℤ, pos, negsuc, true, false, cond, List, [], ◌∷◌, get_or, drop, arith, tests, All, Some, None, inl, inr, lit<}
use Rattle.std.specs.Prelude.{neg_ℤ}
use Rattle.std.specs.Char.{is_whitespace}
use Rattle.std.specs.Fmt.{decimal, signed_decimal}
use Rattle.std.specs.Int.{IsInRange}
use Rattle.std.specs.List.{AllByRecursion}
use Rattle.std.specs.Str.Parse.{IsNumeral, AllDigits, digits_value, signed_digits_value, starts_with_minus, without_leading_plus, without_leading_sign}
use Rattle.std.proofs.lemmas.Bool.Decides.{Decides-ltb, Decides-and, eqb_tells}
use Rattle.std.proofs.Math.Pow.{pow_mono}
use Rattle.std.proofs.lemmas.List.Elements.{All-weaker}
use Rattle.std.proofs.lemmas.Fmt.{decimal_is_IsNumeral_wide}
use Rattle.std.proofs.lemmas.Str.Parse.{digit_from_value, not_in_digits, numerals_by_value, tells_digits, without_leading_plus_none}
use Rattle.range_collections.specs.Reading.{IsPlain, IsReadBack, is_within, unsigned_number, signed_number}
use Rattle.range_collections.proofs.Reading.{Some-where, is_numeral-Decides}

not_eq : (a b : ℕ) → a ≢ b → (a == b) ≡ false
not_eq a b h =
    elim (eqb_tells a b) as (λ _. (a == b) ≡ false) [
      | inl same ↦ absurd (h same.1)
      | inr other ↦ other.0
    ]

plain_digit : (c : ℕ) → IsInRange 48 57 c → IsPlain c
plain_digit c h =
    (omega (arith, h.0, h.1), not_white, not_eq c 44 (λ e. omega (arith, h.0, e)), not_eq c 46 (λ e. omega (arith, h.0, e)))
  where
    not_white : is_whitespace c ≡ false
    not_white = grind (arith, tests)

plain_digits : (ds : List ℕ) → AllDigits 10 ds → AllByRecursion IsPlain ds
plain_digits [] h = tt
plain_digits (c ∷ cs) h = (plain_digit c (digit_from_value c h.0), plain_digits cs h.1)

-- what digits begin with is no sign
no_sign : (ds : List ℕ) (c : ℕ) → c < 48 → IsNumeral 10 ds → get_or ds 0 0 ≢ c
no_sign ds c low h = not_in_digits (numerals_by_value (AllDigits 10) tells_digits) ds c h.1 (λ within. omega (arith, within.0, low)) 0 h.0

pub decimal_reads_back : (k n : ℕ) → n < 2 ^ k → n < 10 ^ 64 → IsReadBack (unsigned_number k) decimal n
unfolding unsigned_number
decimal_reads_back k n small wide = record { plain = plain_digits (decimal n) numeral.1; read = reads } where
  numeral : IsNumeral 10 (decimal n)
  numeral = (decimal_is_IsNumeral_wide n wide).0

  same : without_leading_plus (decimal n) ≡ decimal n
  same = without_leading_plus_none (decimal n) (no_sign (decimal n) 43 (omega arith) numeral)

  value : digits_value 10 (without_leading_plus (decimal n)) ≡ n
  value = ap (digits_value 10) same ∙ (decimal_is_IsNumeral_wide n wide).1

  reads : unsigned_number k (decimal n) ≡ Some n
  reads =
      sym (Some-where _ _ n (digits_value 10 (without_leading_plus (decimal n)))
      (Decides-and _ _ (is_numeral-Decides (without_leading_plus (decimal n))) (Decides-ltb (digits_value 10 (without_leading_plus (decimal n))) (2 ^ k)))
      (rw same numeral, rw value small) (sym value))

pub signed_decimal_reads_back : (k : ℕ) (z : ℤ) → is_within k z ≡ true → 2 ^ k < 10 ^ 64 → IsReadBack (signed_number k) signed_decimal z
unfolding signed_number
signed_decimal_reads_back k (pos n) small wide = record { plain = plain_digits (decimal n) numeral.1; read = reads } where
  below : n < 10 ^ 64
  below = omega (arith, (Decides-ltb n (2 ^ k)).0 small, wide)

  numeral : IsNumeral 10 (decimal n)
  numeral = (decimal_is_IsNumeral_wide n below).0

  no_minus : starts_with_minus (decimal n) ≡ false
  no_minus = not_eq (get_or (decimal n) 0 0) 45 (no_sign (decimal n) 45 (omega arith) numeral)

  same : without_leading_sign (decimal n) ≡ decimal n
  same =
      ap (λ t. cond t (drop 1 (decimal n)) (without_leading_plus (decimal n))) no_minus
      ∙ without_leading_plus_none (decimal n) (no_sign (decimal n) 43 (omega arith) numeral)

  value : signed_digits_value 10 (decimal n) ≡ pos n
  value =
      ap (λ t. cond t (neg_ℤ (pos (digits_value 10 (without_leading_sign (decimal n))))) (pos (digits_value 10 (without_leading_sign (decimal n))))) no_minus
      ∙ ap (λ ds. pos (digits_value 10 ds)) same ∙ ap pos (decimal_is_IsNumeral_wide n below).1

  reads : signed_number k (decimal n) ≡ Some (pos n)
  reads =
      sym (Some-where _ _ (pos n) (signed_digits_value 10 (decimal n))
      (Decides-and _ _ (is_numeral-Decides (without_leading_sign (decimal n))) (λ e. e, λ e. e))
      (rw same numeral, rw value small) (sym value))
signed_decimal_reads_back k (negsuc n) small wide = record { plain = (minus, plain_digits (decimal (suc n)) numeral.1); read = reads } where
  below : suc n < 10 ^ 64
  below = omega (arith, (Decides-ltb n (2 ^ k)).0 small, wide)

  minus : IsPlain 45
  minus = (omega arith, refl, refl, refl)

  numeral : IsNumeral 10 (decimal (suc n))
  numeral = (decimal_is_IsNumeral_wide (suc n) below).0

  value : signed_digits_value 10 (45 ∷ decimal (suc n)) ≡ negsuc n
  value = ap (λ m. neg_ℤ (pos m)) (decimal_is_IsNumeral_wide (suc n) below).1

  reads : signed_number k (45 ∷ decimal (suc n)) ≡ Some (negsuc n)
  reads =
      sym (Some-where _ _ (negsuc n) (signed_digits_value 10 (45 ∷ decimal (suc n)))
      (Decides-and _ _ (is_numeral-Decides (decimal (suc n))) (λ e. e, λ e. e))
      (numeral, rw value small) (sym value))

pub pow_narrow : (k : ℕ) → k ≤ 128 → 2 ^ k < 10 ^ 64
pow_narrow k h =
    let up : 2 ^ k ≤ 2 ^ 128 = pow_mono h in
    let big : 2 ^ 128 < 10 ^ 64 = lit< tt in
    omega (arith, up, big)

pub no_unsigned : (k : ℕ) → unsigned_number k [] ≡ None
unfolding unsigned_number
no_unsigned k = refl

pub no_signed : (k : ℕ) → signed_number k [] ≡ None
unfolding signed_number
no_signed k = refl

pub unsigned_read_back : (k : ℕ) (items : List ℕ) → k ≤ 128 → All (λ n. n < 2 ^ k) items → All (IsReadBack (unsigned_number k) decimal) items
unsigned_read_back k items h =
    All-weaker (λ n. n < 2 ^ k) (IsReadBack (unsigned_number k) decimal) (λ n small. decimal_reads_back k n small (omega (arith, small, pow_narrow k h))) items

pub signed_read_back : (k : ℕ) (items : List ℤ) → k ≤ 128 → All (λ z. is_within k z ≡ true) items → All (IsReadBack (signed_number k) signed_decimal) items
signed_read_back k items h =
    All-weaker (λ z. is_within k z ≡ true) (IsReadBack (signed_number k) signed_decimal) (λ z small. signed_decimal_reads_back k z small (pow_narrow k h)) items

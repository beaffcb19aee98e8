-- Texts of ranges: what the calls on a text find of a range that a part of it writes, and of a
-- number.
use Rattle.std.proofs.Common.{◌≡◌, ◌≢◌, refl, sym, ap, ◌∙◌, ℕ, ◌+◌, ◌^◌, ◌==◌, ℤ, pos, negsuc, Bool, true, false, ◌||◌, cond, List, [], ◌∷◌, length, drop, arith, Option, Some, None, Result, Ok, Err, inl, inr}
use Rattle.std.specs.Bool.{Decides}
use Rattle.std.specs.List.{before_first, after_first, position_or_len}
use Rattle.std.specs.Option.{option_and_then}
use Rattle.std.specs.Result.{result_ok}
use Rattle.std.specs.Str.{trim, all_ascii_digits}
use Rattle.std.specs.Str.Parse.{ParsesSigned, ParsesUnsigned, IsNumeral, AllDigits, digits_value, signed_digits_value, without_leading_plus, without_leading_sign}
use Rattle.std.proofs.lemmas.Bool.Decides.{Decides-ltb, Decides-and, eqb_tells}
use Rattle.std.proofs.lemmas.List.{drop_all}
use Rattle.std.proofs.lemmas.Str.Parse.{numerals_by_value, tells_all_ascii_digits}
use Rattle.range_collections.specs.Reading.{is_numeral, is_within, unsigned_number, signed_number, range_up_to, range_after_dot, range_of, range_in}
use Rattle.range_collections.specs.declared.range_set_range.RangeSetRange.{RangeSetRange}
use mir.Syntax.{Width, w8, w16, w32, w64, w128}
use mir.Val.{SFits}

-- numbers

all_ascii_digits-Decides : (ds : List ℕ) → Decides (all_ascii_digits ds) (AllDigits 10 ds)
all_ascii_digits-Decides ds =
    let own = numerals_by_value (λ es. all_ascii_digits es ≡ true) tells_all_ascii_digits in (own.to ds, own.from ds)

pub is_numeral-Decides : (ds : List ℕ) → Decides (is_numeral ds) (IsNumeral 10 ds)
is_numeral-Decides ds = Decides-and _ _ (Decides-ltb 0 (length ds)) (all_ascii_digits-Decides ds)

pub Some-where : {X : Type 0} (b : Bool) (P : Type 0) (z v : X) → Decides b P → P → z ≡ v → Some z ≡ cond b (Some v) None
Some-where b P z v d h e = ap Some e ∙ sym (ap (λ t. cond t (Some v) None) (d.1 h))

None-where : {X : Type 0} (b : Bool) (P : Type 0) (v : X) → Decides b P → ¬ P → None ≡ cond b (Some v) None
None-where true P v d h = absurd (h (d.0 refl))
None-where false P v d h = refl

pub unsigned_number-parsed : {E : Type 0} (k : ℕ) (text : List ℕ) (r : Result ℕ E) → ParsesUnsigned k 10 text r → result_ok r ≡ unsigned_number k text
unfolding unsigned_number
unsigned_number-parsed k text (Ok n) h =
    Some-where _ _ n (digits_value 10 (without_leading_plus text))
    (Decides-and _ _ (is_numeral-Decides (without_leading_plus text)) (Decides-ltb (digits_value 10 (without_leading_plus text)) (2 ^ k))) h.0 h.1
unsigned_number-parsed k text (Err e) h =
    None-where _ _ (digits_value 10 (without_leading_plus text))
    (Decides-and _ _ (is_numeral-Decides (without_leading_plus text)) (Decides-ltb (digits_value 10 (without_leading_plus text)) (2 ^ k))) h

signed_number-parsed : {E : Type 0} (w : Width) (k : ℕ) → ((z : ℤ) → Decides (is_within k z) (SFits w z)) → (text : List ℕ) (r : Result ℤ E) → ParsesSigned w 10 text r →
    result_ok r ≡ signed_number k text
unfolding signed_number
signed_number-parsed w k fits text (Ok z) h =
    Some-where _ _ z (signed_digits_value 10 text)
    (Decides-and _ _ (is_numeral-Decides (without_leading_sign text)) (fits (signed_digits_value 10 text))) h.0 h.1
signed_number-parsed w k fits text (Err e) h =
    None-where _ _ (signed_digits_value 10 text)
    (Decides-and _ _ (is_numeral-Decides (without_leading_sign text)) (fits (signed_digits_value 10 text))) h

fits8 : (z : ℤ) → Decides (is_within 7 z) (SFits w8 z)
fits8 (pos n) = (λ e. record { sfits = (Decides-ltb n (2 ^ 7)).0 e }, λ f. (Decides-ltb n (2 ^ 7)).1 f.sfits)
fits8 (negsuc n) = (λ e. record { sfits = (Decides-ltb n (2 ^ 7)).0 e }, λ f. (Decides-ltb n (2 ^ 7)).1 f.sfits)

pub number_of8 : {E : Type 0} (text : List ℕ) (r : Result ℤ E) → ParsesSigned w8 10 text r → result_ok r ≡ signed_number 7 text
number_of8 = signed_number-parsed w8 7 fits8

fits16 : (z : ℤ) → Decides (is_within 15 z) (SFits w16 z)
fits16 (pos n) = (λ e. record { sfits = (Decides-ltb n (2 ^ 15)).0 e }, λ f. (Decides-ltb n (2 ^ 15)).1 f.sfits)
fits16 (negsuc n) = (λ e. record { sfits = (Decides-ltb n (2 ^ 15)).0 e }, λ f. (Decides-ltb n (2 ^ 15)).1 f.sfits)

pub number_of16 : {E : Type 0} (text : List ℕ) (r : Result ℤ E) → ParsesSigned w16 10 text r → result_ok r ≡ signed_number 15 text
number_of16 = signed_number-parsed w16 15 fits16

fits32 : (z : ℤ) → Decides (is_within 31 z) (SFits w32 z)
fits32 (pos n) = (λ e. record { sfits = (Decides-ltb n (2 ^ 31)).0 e }, λ f. (Decides-ltb n (2 ^ 31)).1 f.sfits)
fits32 (negsuc n) = (λ e. record { sfits = (Decides-ltb n (2 ^ 31)).0 e }, λ f. (Decides-ltb n (2 ^ 31)).1 f.sfits)

pub number_of32 : {E : Type 0} (text : List ℕ) (r : Result ℤ E) → ParsesSigned w32 10 text r → result_ok r ≡ signed_number 31 text
number_of32 = signed_number-parsed w32 31 fits32

fits64 : (z : ℤ) → Decides (is_within 63 z) (SFits w64 z)
fits64 (pos n) = (λ e. record { sfits = (Decides-ltb n (2 ^ 63)).0 e }, λ f. (Decides-ltb n (2 ^ 63)).1 f.sfits)
fits64 (negsuc n) = (λ e. record { sfits = (Decides-ltb n (2 ^ 63)).0 e }, λ f. (Decides-ltb n (2 ^ 63)).1 f.sfits)

pub number_of64 : {E : Type 0} (text : List ℕ) (r : Result ℤ E) → ParsesSigned w64 10 text r → result_ok r ≡ signed_number 63 text
number_of64 = signed_number-parsed w64 63 fits64

fits128 : (z : ℤ) → Decides (is_within 127 z) (SFits w128 z)
fits128 (pos n) = (λ e. record { sfits = (Decides-ltb n (2 ^ 127)).0 e }, λ f. (Decides-ltb n (2 ^ 127)).1 f.sfits)
fits128 (negsuc n) = (λ e. record { sfits = (Decides-ltb n (2 ^ 127)).0 e }, λ f. (Decides-ltb n (2 ^ 127)).1 f.sfits)

pub number_of128 : {E : Type 0} (text : List ℕ) (r : Result ℤ E) → ParsesSigned w128 10 text r → result_ok r ≡ signed_number 127 text
number_of128 = signed_number-parsed w128 127 fits128

-- ranges

and_then_none : {A B : Type 0} (f : A → Option B) (o : Option A) → ((a : A) → f a ≡ None) → option_and_then f o ≡ None
and_then_none f None h = refl
and_then_none f (Some a) h = h a

module _ {K : Type 0} (number : List ℕ → Option K) where
  after_no_dot : (start : K) (after : List ℕ) → ((rest : List ℕ) → after ≢ 46 ∷ rest) → range_after_dot number start after ≡ None
  after_no_dot start [] h = refl
  after_no_dot start (c ∷ cs) h =
      elim (eqb_tells c 46) as (λ _. range_after_dot number start (c ∷ cs) ≡ None) [
        | inl same ↦ absurd (h cs (ap (λ d. d ∷ cs) same.1))
        | inr other ↦ ap (λ b. cond b (range_up_to number start cs) None) other.0
      ]

  pub range_in-no_dot : (part word : List ℕ) (r : Option (RangeSetRange K)) → r ≡ None → word ≡ trim part → position_or_len (λ b. b == 46) word ≡ length word → r ≡ range_in number part
  unfolding range_in
  range_in-no_dot part word r e is none =
      let after : after_first (λ b. b == 46) word ≡ [] = ap (λ n. drop (n + 1) word) none ∙ drop_all (length word + 1) word (omega arith) in
      e ∙ sym (ap (range_of number) (sym is) ∙ and_then_none (λ start. range_after_dot number start (after_first (λ b. b == 46) word)) (number (before_first (λ b. b == 46) word))
      (λ start. ap (range_after_dot number start) after))

  pub range_in-no_start : (part word before : List ℕ) (r : Option (RangeSetRange K)) → r ≡ None → word ≡ trim part → before ≡ before_first (λ b. b == 46) word → None ≡ number before →
      r ≡ range_in number part
  unfolding range_in
  range_in-no_start part word before r e is first none =
      e ∙ sym (ap (range_of number) (sym is)
      ∙ ap (option_and_then (λ start. range_after_dot number start (after_first (λ b. b == 46) word))) (ap number (sym first) ∙ sym none))

  with_start : (part word before after : List ℕ) (start : K) → word ≡ trim part → before ≡ before_first (λ b. b == 46) word → after ≡ after_first (λ b. b == 46) word →
      Some start ≡ number before → range_after_dot number start after ≡ range_in number part
  unfolding range_in
  with_start part word before after start is first second known =
      ap (range_after_dot number start) second
      ∙ sym (ap (range_of number) (sym is)
      ∙ ap (option_and_then (λ start. range_after_dot number start (after_first (λ b. b == 46) word))) (ap number (sym first) ∙ sym known))

  pub range_in-one_dot : (part word before after : List ℕ) (start : K) (r : Option (RangeSetRange K)) → r ≡ None → word ≡ trim part → before ≡ before_first (λ b. b == 46) word →
      after ≡ after_first (λ b. b == 46) word → Some start ≡ number before → ((rest : List ℕ) → after ≢ 46 ∷ rest) → r ≡ range_in number part
  range_in-one_dot part word before after start r e is first second known off =
      e ∙ sym (after_no_dot start after off) ∙ with_start part word before after start is first second known

  pub range_in-both : (part word before after rest : List ℕ) (start : K) → word ≡ trim part → before ≡ before_first (λ b. b == 46) word →
      after ≡ after_first (λ b. b == 46) word → Some start ≡ number before → after ≡ 46 ∷ rest → range_up_to number start rest ≡ range_in number part
  range_in-both part word before after rest start is first second known dot =
      sym (ap (range_after_dot number start) dot) ∙ with_start part word before after start is first second known

-- truths

pub or_left : (l a b : Bool) → l ≡ a → l ≡ true → l ≡ (a || b)
or_left l true b e t = t
or_left l false b e t = cc

pub or_right : (l a r b : Bool) → l ≡ a → l ≡ false → r ≡ b → r ≡ (a || b)
or_right l true r b e f g = cc
or_right l false r b e f g = g

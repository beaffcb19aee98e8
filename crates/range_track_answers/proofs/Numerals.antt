-- What `parse` reads of a numeral at u64 is the number of the word.
use Rattle.std.proofs.Common.{◌≡◌, ℕ, ◌^◌, ◌<◌, ◌≤◌, Bool, true, false, ◌&&◌, cond, List, [], ◌∷◌, Result, Some, None, Ok, Err, refl, sym, ap, ◌∙◌, length}
use Rattle.std.specs.Prelude.{nat_lt, nat_le}
use Rattle.std.specs.Str.{all_ascii_digits}
use Rattle.std.specs.Str.Parse.{ParsesUnsigned, digits_value}
use Rattle.std.specs.Char.{is_ascii_digit}
use Rattle.std.specs.List.{list_all}
use Rattle.std.specs.Result.{OkIff, result_ok}
use Rattle.std.proofs.lemmas.Bool.{false_from_ne_true, leb-true, le-leb}
use Rattle.std.proofs.lemmas.Bool.Decides.{Decides-ltb}
use Rattle.std.proofs.lemmas.Str.Parse.{numerals_by_value, tells_all_ascii_digits, parse_digits}
use Rattle.range_track_answers.specs.Requests.{number_of, is_numeral}

pub list_all-digits : (word : List ℕ) → list_all is_ascii_digit word ≡ all_ascii_digits word
list_all-digits [] = refl
list_all-digits (b ∷ bs) = ap (λ t. is_ascii_digit b && t) (list_all-digits bs)

both : (a b c : Bool) → (a && b && c) ≡ true → (a ≡ true) × (b ≡ true) × (c ≡ true)
both true true c h = (refl, refl, h)
both true false c h = cc
both false b c h = cc

read : {E : Type 0} (r : Result ℕ E) (n : Bool) (v : ℕ) (Q : Type 0) → n ≡ true → Q → OkIff r (Q × (v < 2 ^ 64)) v →
    result_ok r ≡ cond (n && nat_lt v (2 ^ 64)) (Some v) None
read (Ok z) n v Q e q h = rw (e, (Decides-ltb v (2 ^ 64)).1 h.0.1) (ap Some h.1)
read (Err d) n v Q e q h = rw (e, false_from_ne_true (nat_lt v (2 ^ 64)) (λ t. h (q, (Decides-ltb v (2 ^ 64)).0 t))) refl

pub number_of-parsed : {E : Type 0} (word : List ℕ) (r : Result ℕ E) → ParsesUnsigned 64 10 word r → is_numeral word ≡ true → result_ok r ≡ number_of word
unfolding number_of
number_of-parsed word r h numeral =
    let own = numerals_by_value (λ es. all_ascii_digits es ≡ true) tells_all_ascii_digits in
    let parts = both (nat_le 1 (length word)) (nat_le (length word) 20) (all_ascii_digits word) numeral in
    read r (is_numeral word) (digits_value 10 word) (0 < length word) numeral (leb-true 1 (length word) parts.0) (parse_digits own 64 word r h parts.2)

pub is_numeral-counted : (word : List ℕ) → 1 ≤ length word → length word ≤ 20 → list_all is_ascii_digit word ≡ is_numeral word
is_numeral-counted word some few = list_all-digits word ∙ sym (rw (le-leb 1 (length word) some, le-leb (length word) 20 few) refl)

pub is_numeral-not_counted : (word : List ℕ) → (1 ≤ length word → length word ≤ 20 → ⊥) → false ≡ is_numeral word
is_numeral-not_counted word h =
    sym (false_from_ne_true (is_numeral word)
    (λ t.
    let parts = both (nat_le 1 (length word)) (nat_le (length word) 20) (all_ascii_digits word) t in
    h (leb-true 1 (length word) parts.0) (leb-true (length word) 20 parts.1)))

pub number_of-none : (word : List ℕ) → is_numeral word ≡ false → None ≡ number_of word
unfolding number_of
number_of-none word e = rw e refl

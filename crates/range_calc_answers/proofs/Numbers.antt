-- What `parse` reads of a word at i64 is `signed_number 63` of the word, and what words write fits
-- into i64.
use Rattle.std.proofs.Common.{◌≡◌, ℕ, ◌^◌, ℤ, pos, negsuc, Bool, true, false, ◌&&◌, cond, List, [], ◌∷◌, All, Option, Result, Some, None, Ok, Err, refl, sym, ap, ◌∙◌, length}
use Rattle.std.specs.Bool.{Decides}
use Rattle.std.specs.Str.{all_ascii_digits}
use Rattle.std.specs.Str.Parse.{ParsesSigned, IsNumeral, AllDigits, signed_digits_value, without_leading_sign}
use Rattle.std.specs.Result.{result_ok}
use Rattle.std.specs.List.{filter_map, cons_option}
use Rattle.std.specs.Ordering.{int_cmp}
use Rattle.std.proofs.lemmas.List.Elements.{All-nil, All-cons}
use Rattle.std.proofs.lemmas.Bool.Decides.{Decides-ltb, Decides-and}
use Rattle.std.proofs.lemmas.Str.Parse.{numerals_by_value, tells_all_ascii_digits}
use Rattle.range_collections.specs.Values.{EqualsAreValues}
use Rattle.range_collections.proofs.JsonLemmas.{Equal-int_cmp}
use Rattle.range_collections.specs.Reading.{signed_number, parts_of, is_numeral, is_within}
use Rattle.range_calc_answers.specs.Words.{numbers_of}
use mir.Syntax.{w64}
use mir.Val.{SFits}

all_ascii_digits-Decides : (ds : List ℕ) → Decides (all_ascii_digits ds) (AllDigits 10 ds)
all_ascii_digits-Decides ds =
    let own = numerals_by_value (λ es. all_ascii_digits es ≡ true) tells_all_ascii_digits in (own.to ds, own.from ds)

is_within-Decides : (z : ℤ) → Decides (is_within 63 z) (SFits w64 z)
is_within-Decides (pos n) = (λ e. record { sfits = (Decides-ltb n (2 ^ 63)).0 e }, λ f. (Decides-ltb n (2 ^ 63)).1 f.sfits)
is_within-Decides (negsuc n) = (λ e. record { sfits = (Decides-ltb n (2 ^ 63)).0 e }, λ f. (Decides-ltb n (2 ^ 63)).1 f.sfits)

-- the test of `signed_number` tells whether `parse` reads a number
is_number-Decides : (word : List ℕ) → Decides (is_numeral (without_leading_sign word) && is_within 63 (signed_digits_value 10 word)) (IsNumeral 10 (without_leading_sign word) × SFits w64 (signed_digits_value 10 word))
is_number-Decides word =
    let ds = without_leading_sign word in
    Decides-and _ _ (Decides-and _ _ (Decides-ltb 0 (length ds)) (all_ascii_digits-Decides ds)) (is_within-Decides (signed_digits_value 10 word))

Some-where : (b : Bool) (P : Type 0) (z v : ℤ) → Decides b P → P → z ≡ v → Some z ≡ cond b (Some v) None
Some-where b P z v d h e = ap Some e ∙ sym (ap (λ t. cond t (Some v) None) (d.1 h))

None-where : (b : Bool) (P : Type 0) (v : ℤ) → Decides b P → ¬ P → None ≡ cond b (Some v) None
None-where true P v d h = absurd (h (d.0 refl))
None-where false P v d h = refl

pub signed_number-parsed : {E : Type 0} (word : List ℕ) (r : Result ℤ E) → ParsesSigned w64 10 word r → result_ok r ≡ signed_number 63 word
unfolding signed_number
signed_number-parsed word (Ok z) h = Some-where _ _ z (signed_digits_value 10 word) (is_number-Decides word) h.0 h.1
signed_number-parsed word (Err e) h = None-where _ _ (signed_digits_value 10 word) (is_number-Decides word) h

Some-fits : (b : Bool) (P : Type 0) (v z : ℤ) → Decides b (P × SFits w64 v) → cond b (Some v) None ≡ Some z → SFits w64 z
Some-fits true P v z d e =
    let same : v ≡ z = cc in
    rw (← same) (d.0 refl).1
Some-fits false P v z d e = cc

-- what a word writes is within i64
pub signed_number-fits : (word : List ℕ) (z : ℤ) → signed_number 63 word ≡ Some z → SFits w64 z
unfolding signed_number
signed_number-fits word z e = Some-fits _ _ (signed_digits_value 10 word) z (is_number-Decides word) e

-- and so is each number of a list
All-cons_option : (P : ℤ → Type 0) (read : Option ℤ) (zs : List ℤ) → ((z : ℤ) → read ≡ Some z → P z) → All P zs → All P (cons_option read zs)
All-cons_option P None zs h all = all
All-cons_option P (Some z) zs h all = All-cons P z zs (h z refl) all

All-numbers_fit : (parts : List (List ℕ)) → All (SFits w64) (filter_map (signed_number 63) parts)
All-numbers_fit [] = All-nil (SFits w64)
All-numbers_fit (part ∷ parts) =
    All-cons_option (SFits w64) (signed_number 63 part) (filter_map (signed_number 63) parts) (signed_number-fits part) (All-numbers_fit parts)

pub numbers_of-fit : (word : List ℕ) → All (SFits w64) (numbers_of word)
unfolding numbers_of
numbers_of-fit word = All-numbers_fit (parts_of word)

-- what equals a number of i64 is that number
pub equals_of_i64 : EqualsAreValues int_cmp (SFits w64)
equals_of_i64 x y e fits = rw (← Equal-int_cmp x y e) fits

-- Words that differ, and the words of a line.
use Rattle.std.proofs.Common.{◌≡◌, ℕ, ◌≤◌, Bool, true, ◌&&◌, ◌<◌, ◌+◌, false, List, [], ◌∷◌, length, refl, arith}
use Rattle.std.specs.Prelude.{◌==◌, nat_le}
use Rattle.std.specs.List.{position_or_len, count_by}
use Rattle.std.specs.Str.{bytes_eq, is_utf8, IsUtf8}
use Rattle.std.proofs.lemmas.Bool.{false_from_ne_true, leb-true, le-leb}
use Rattle.std.proofs.lemmas.Str.{IsUtf8-from_is_utf8, is_utf8-from_IsUtf8}
use Rattle.std.proofs.lemmas.List.Splits.{slice_split_none, length-slice_split}
use Rattle.std.proofs.lemmas.List.Sums.{fails_before_first}
use Rattle.std.proofs.lemmas.Slice.Eq.{bytes_eq-Decides}
use Rattle.std.specs.Prelude.{None}
use Rattle.range_track_answers.specs.Requests.{words_of, asked_by, request_of}

pub bytes_eq-false : (word other : List ℕ) → (word ≡ other → ⊥) → bytes_eq word other ≡ false
bytes_eq-false word other h = false_from_ne_true (bytes_eq word other) (λ e. h ((bytes_eq-Decides word other).0 e))

-- a line with no blank is one word
pub words_of-no_blank : (line : List ℕ) → position_or_len (λ b. b == 32) line ≡ length line → words_of line ≡ line ∷ []
words_of-no_blank line none =
    slice_split_none (λ b. b == 32) line (λ k d within. fails_before_first (λ b. b == 32) line k d (omega arith))

-- four words and more ask nothing
pub asked_by-more : (word a b : List ℕ) (line : List ℕ) → asked_by (word ∷ a ∷ b ∷ words_of line) ≡ None
unfolding asked_by
asked_by-more word a b line = some (count_by (λ c. c == 32) line) (words_of line) (length-slice_split (λ c. c == 32) line)
  where
    some : (n : ℕ) (words : List (List ℕ)) → length words ≡ n + 1 → asked_by (word ∷ a ∷ b ∷ words) ≡ None
    some n [] e = absurd (omega arith)
    some n (c ∷ more) e = refl

-- what a line asks, by its length and whether it is a text

and-false : (b : Bool) → (b && false) ≡ false
and-false true = refl
and-false false = refl

pub request_of-long : (line : List ℕ) → 64 < length line → None ≡ request_of line
unfolding request_of
request_of-long line long =
    let off = false_from_ne_true (nat_le (length line) 64) (λ t. let few = leb-true (length line) 64 t in omega arith) in rw off refl

pub request_of-no_text : (line : List ℕ) → ¬ (IsUtf8 line) → None ≡ request_of line
unfolding request_of
request_of-no_text line none =
    let off = false_from_ne_true (is_utf8 line) (λ t. none (IsUtf8-from_is_utf8 line t)) in rw (off, and-false (nat_le (length line) 64)) refl

pub request_of-text : (line : List ℕ) → length line ≤ 64 → IsUtf8 line → asked_by (words_of line) ≡ request_of line
unfolding request_of
request_of-text line few text = rw (le-leb (length line) 64 few, is_utf8-from_IsUtf8 line text) refl

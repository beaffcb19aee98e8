-- Words that differ, and lists of two, of three and of other numbers of words, of which the last
-- ask nothing.
use Rattle.std.proofs.Common.{◌≡◌, ℕ, false, List, [], ◌∷◌, length, get_or, None, refl, arith}
use Rattle.std.specs.Str.{bytes_eq}
use Rattle.std.proofs.lemmas.Bool.{false_from_ne_true}
use Rattle.std.proofs.lemmas.Slice.Eq.{bytes_eq-Decides}
use Rattle.range_calc_answers.specs.Words.{asked_by}

pub bytes_eq-false : (word other : List ℕ) → (word ≡ other → ⊥) → bytes_eq word other ≡ false
bytes_eq-false word other h = false_from_ne_true (bytes_eq word other) (λ e. h ((bytes_eq-Decides word other).0 e))

pub asked_by-other_number : (words : List (List ℕ)) → (length words ≡ 2 → ⊥) → (length words ≡ 3 → ⊥) → asked_by words ≡ None
unfolding asked_by
asked_by-other_number [] h k = refl
asked_by-other_number (c ∷ []) h k = refl
asked_by-other_number (c ∷ a ∷ []) h k = absurd (h (omega arith))
asked_by-other_number (c ∷ a ∷ b ∷ []) h k = absurd (k (omega arith))
asked_by-other_number (c ∷ a ∷ b ∷ d ∷ rest) h k = refl

pub are_two : {A : Type 0} (words : List A) (command a : A) → length words ≡ 2 → command ≡ get_or words 0 command → a ≡ get_or words 1 a → words ≡ command ∷ a ∷ []
are_two [] command a n e f = absurd (omega arith)
are_two (x ∷ []) command a n e f = absurd (omega arith)
are_two (x ∷ y ∷ []) command a n e f = rw (e, f) refl
are_two (x ∷ y ∷ z ∷ rest) command a n e f = absurd (omega arith)

pub are_three : {A : Type 0} (words : List A) (command a b : A) → length words ≡ 3 → command ≡ get_or words 0 command → a ≡ get_or words 1 a → b ≡ get_or words 2 b
    → words ≡ command ∷ a ∷ b ∷ []
are_three [] command a b n e f g = absurd (omega arith)
are_three (x ∷ []) command a b n e f g = absurd (omega arith)
are_three (x ∷ y ∷ []) command a b n e f g = absurd (omega arith)
are_three (x ∷ y ∷ z ∷ []) command a b n e f g = rw (e, f, g) refl
are_three (x ∷ y ∷ z ∷ u ∷ rest) command a b n e f g = absurd (omega arith)

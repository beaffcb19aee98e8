-- The lines of a text, one after another.
use Rattle.std.proofs.Common.{◌≡◌, ◌≢◌, refl, sym, ap, ◌∙◌, ℕ, List, [], ◌∷◌, ◌++◌, take, length, arith, inl, inr, false, rules}
use Rattle.std.specs.Prelude.{◌==◌, map}
use Rattle.std.proofs.lemmas.Bool.{cases_lt, false_from_ne_true, eqb-true}
use Rattle.std.proofs.lemmas.List.{take_all, length-take}
use Rattle.std.proofs.lemmas.List.Elements.{All-head, All-tail, All-take}
use Rattle.range_track_answers.specs.Lines.{lines_of, IsLine, onto_first_line}
use Rattle.range_track_answers.specs.Requests.{request_of}
use Rattle.range_track_answers.proofs.Words.{request_of-long}

not_newline : (b : ℕ) → b ≢ 10 → (b == 10) ≡ false
not_newline b h = false_from_ne_true (b == 10) (λ t. h (eqb-true b 10 t))

pub lines_of-newline : (line rest : List ℕ) → IsLine line → lines_of (line ++ 10 ∷ rest) ≡ line ∷ lines_of rest
unfolding lines_of
lines_of-newline [] rest h = refl
lines_of-newline (b ∷ bs) rest h =
    rw (not_newline b (All-head (λ x. x ≢ 10) b bs h)) (ap (λ lines. onto_first_line b lines) (lines_of-newline bs rest (All-tail (λ x. x ≢ 10) b bs h)))

pub lines_of-last : (b : ℕ) (bs : List ℕ) → IsLine (b ∷ bs) → lines_of (b ∷ bs) ≡ (b ∷ bs) ∷ []
unfolding lines_of
lines_of-last b [] h = rw (not_newline b (All-head (λ x. x ≢ 10) b [] h)) refl
lines_of-last b (d ∷ ds) h =
    rw (not_newline b (All-head (λ x. x ≢ 10) b (d ∷ ds) h)) (ap (λ lines. onto_first_line b lines) (lines_of-last d ds (All-tail (λ x. x ≢ 10) b (d ∷ ds) h)))

pub lines_of-one : (line : List ℕ) → (length line == 0) ≡ false → IsLine line → lines_of line ≡ line ∷ []
lines_of-one [] some h = cc
lines_of-one (b ∷ bs) some h = lines_of-last b bs h

-- what is kept of a line asks what the line asks
pub request_of-kept : (line : List ℕ) → request_of (take 65 line) ≡ request_of line
request_of-kept line =
    elim (cases_lt 64 (length line)) as (λ _. request_of (take 65 line) ≡ request_of line) [
      | inl long ↦ sym (request_of-long (take 65 line) (omega (arith, length-take 65 line))) ∙ request_of-long line long
      | inr short ↦ ap (λ l. request_of l) (take_all 65 line (omega arith))
    ]

pub requests-kept : (line : List ℕ) → IsLine line → map request_of (lines_of (take 65 line)) ≡ map request_of (lines_of line)
requests-kept [] h = refl
requests-kept (b ∷ bs) h =
    ap (λ lines. map request_of lines) (lines_of-one (take 65 (b ∷ bs)) (search rules) (All-take (λ x. x ≢ 10) 65 (b ∷ bs) h))
    ∙ ap (λ request. request ∷ []) (request_of-kept (b ∷ bs))
    ∙ sym (ap (λ lines. map request_of lines) (lines_of-last b bs h))

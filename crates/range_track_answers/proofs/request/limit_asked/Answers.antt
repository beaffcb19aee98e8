use Rattle.std.proofs.Common.{◌≡◌, List, [], ◌∷◌, length, None, refl, arith}
use Rattle.std.specs.Prelude.{String}
use Rattle.std.proofs.lemmas.List.{nil_from_length}
use Rattle.range_track_answers.specs.Limit.{limit_of, texts}
use Rattle.range_track_answers.proofs.request.limit_asked.Goals as goal

many : {A : Type 0} (words : List (String A)) → (length words ≡ 0 → ⊥) → (length words ≡ 1 → ⊥) → None ≡ limit_of (texts words)
unfolding limit_of
many [] h k = absurd (h refl)
many (w ∷ []) h k = absurd (k refl)
many (w ∷ v ∷ more) h k = refl

pub returns-in-0-clause-value : goal.returns-in-0-clause-value
unfolding limit_of
returns-in-0-clause-value c = rw (nil_from_length c.args.words.now c.in-0.is) refl

pub returns-in_default-clause-value : goal.returns-in_default-clause-value
returns-in_default-clause-value c = many c.args.words.now (λ e. omega (arith, c.in_default)) (λ e. omega (arith, c.in_default))

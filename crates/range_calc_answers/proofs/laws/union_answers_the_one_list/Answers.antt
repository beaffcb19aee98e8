use Rattle.std.proofs.Common.{◌≡◌, ℕ, ℤ, List, [], ◌∷◌, Option, Some, codes, subst, refl}
use Rattle.range_calc_answers.specs.Outcome.{IsOutcome}
use Rattle.range_calc_answers.specs.Words.{Asked, asked_by, two_lists, list_and_number, list_of, of_two_lists}
use Rattle.range_calc_answers.specs.declared.request.TwoLists.TheVariants.{Union}
use Rattle.range_calc_answers.specs.declared.answering.Status.TheVariants.{Answered}
use Rattle.range_calc_answers.proofs.laws.union_answers_the_one_list.Goals as goal

-- `union` and two lists ask for their union
asked_by-union : (left right : List ℕ) (a b : List ℤ) → list_of left ≡ Some a → list_of right ≡ Some b →
    asked_by (codes "union" ∷ left ∷ right ∷ []) ≡ Some (of_two_lists Union a b)
unfolding asked_by two_lists list_and_number
asked_by-union left right a b e f = rw (e, f) refl

pub returns : goal.returns
returns c = λ left right line a b e f outcome.
    (subst (λ (asked : Option Asked). IsOutcome asked Answered line) (asked_by-union left right a b e f) outcome).1

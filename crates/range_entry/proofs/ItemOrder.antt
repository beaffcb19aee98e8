-- Lists in the order by items.
use Rattle.std.proofs.Common.{◌≡◌, ℕ, suc, IsTrue, List, [], ◌∷◌, Bool, length, refl, arith}
use Rattle.std.specs.Prelude.{◌↔◌, ◌==◌}
use Rattle.std.specs.Cmp.{IsTotalOrder}
use Rattle.std.specs.Cmp.Lexicographic.{slice_cmp}
use Rattle.std.specs.Ordering.{nat_cmp}
use Rattle.std.specs.declared.cmp.Ordering.{Ordering}
use Rattle.std.specs.declared.cmp.Ordering.TheVariants.{Equal}
use Rattle.std.proofs.lemmas.Cmp.{tied_itself, lists_total, nat_cmp_total}
use Rattle.std.proofs.lemmas.Bool.Decides.{Decides-eqb}

-- a list equals the empty one exactly where it has no items
empty_cases : {T : Type 0} (order : T → T → Ordering) (xs : List T) → IsTrue (length xs == 0) ↔ (slice_cmp order xs [] ≡ Equal)
empty_cases order [] = ((λ _. refl), (λ _. refl))
empty_cases order (x ∷ xs) = ((λ h. let none : suc (length xs) ≡ 0 = (Decides-eqb (suc (length xs)) 0).0 h in absurd (omega arith)), (λ h. cc))

pub empty_alone : {T : Type 0} (order : T → T → Ordering) (xs : List T) (b : Bool) → b ≡ (length xs == 0) → IsTrue b ↔ (slice_cmp order xs [] ≡ Equal)
empty_alone order xs b e = rw e (empty_cases order xs)

-- a list equals itself
pub equals_itself : {T : Type 0} {order : T → T → Ordering} → IsTotalOrder order → (xs : List T) → slice_cmp order xs xs ≡ Equal
equals_itself total = tied_itself (lists_total total)

-- a text equals itself
pub equal_texts : (xs ys : List ℕ) → ys ≡ xs → slice_cmp nat_cmp xs ys ≡ Equal
equal_texts xs ys e = rw e (equals_itself nat_cmp_total xs)

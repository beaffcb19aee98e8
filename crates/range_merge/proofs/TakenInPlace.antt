-- What a merge in place keeps, run by run.
use Rattle.std.proofs.Common.{◌≡◌, ℕ, Bool, true, false, List, [], ◌++◌, take, Result, Ok, Err, IsOk, IfOk, refl, ap, sym, ◌∙◌}
use Rattle.std.proofs.lemmas.List.{map-append}
use Rattle.range_merge.specs.Changes.{Taken, taken_item, taken_items, taken_left, taken_right}
use Rattle.range_merge.specs.Copies.{items_if}
use Rattle.range_merge.proofs.CopiesLemmas.{taken_items-taken_left, taken_items-taken_right}

module _ {K : Type 0} (wanted : Bool) (n : ℕ) where
  pub taken_items-left : (left kept kept' : List K) (before : List (Taken K)) → kept' ≡ kept ++ items_if wanted (take n left)
      → taken_items before ≡ kept → taken_items (before ++ taken_left wanted n left) ≡ kept'
  taken_items-left left kept kept' before more so_far =
      map-append taken_item before (taken_left wanted n left)
      ∙ ap (λ xs. xs ++ taken_items (taken_left wanted n left)) so_far
      ∙ ap (λ xs. kept ++ xs) (taken_items-taken_left wanted n left)
      ∙ sym more

-- a merge that cannot be refused and never stops leaves the whole output
pub whole-output : {K E : Type 0} (r : Result Bool E) (old new : List (Taken K) → Type 0) (items : List (Taken K)) (X : Type 0) → IsOk r
    → IfOk r (λ more. more ≡ true → (before : List (Taken K)) → old before → new (before ++ items))
    → IfOk r (λ more. more ≡ false → (false ≡ true) × X) → old [] → new items
whole-output (Ok true) old new items X ok through stopped start = through refl [] start
whole-output (Ok false) old new items X ok through stopped start = cc ((stopped refl).0)
whole-output (Err e) old new items X ok through stopped start = cc

-- the first items of the right side themselves
pub taken_items-front : {K : Type 0} (right kept new : List K) (n : ℕ) (ts : List (Taken K)) → new ≡ take n right → taken_items ts ≡ kept → taken_items (ts ++ taken_right true n right) ≡ kept ++ new
taken_items-front right kept new n ts is so_far =
    map-append taken_item ts (taken_right true n right)
    ∙ ap (λ xs. taken_items ts ++ xs) (taken_items-taken_right true n right ∙ sym is)
    ∙ ap (λ xs. xs ++ new) so_far

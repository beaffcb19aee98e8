-- What a merge that only tests ends with.
use Rattle.std.proofs.Common.{◌≡◌, ℕ, zero, suc, ◌≤◌, Bool, true, false, List, [], ◌∷◌, ◌++◌, length, take, Result, Ok, Err, IsOk, IfOk, refl, ◌∙◌, arith}
use Rattle.range_merge.specs.Changes.{Taken, StopsAmong}
use Rattle.range_merge.specs.Owners.{Owner}
use Rattle.range_merge.specs.States.{any_item}

any_item-take : {T : Type 0} (n : ℕ) (ts : List T) → 1 ≤ n → n ≤ length ts → any_item (take n ts) ≡ any_item ts
any_item-take zero ts some within = absurd (omega arith)
any_item-take (suc n) [] some within = refl
any_item-take (suc n) (t ∷ ts) some within = refl

-- the state remembers an item exactly if there was one to take
pub taken-any_item : {K E : Type 0} (r : Result Bool E) (was taken : Bool) (os : List (Owner K)) (items : List (Taken K)) → IsOk r → was ≡ false
    → IfOk r (λ more. more ≡ true → (before : List (Taken K)) → was ≡ any_item before → taken ≡ any_item (before ++ items))
    → IfOk r (λ more. more ≡ false → (true ≡ true) × StopsAmong os (λ ts. was ≡ any_item ts) (λ ts. taken ≡ any_item ts) items)
    → taken ≡ any_item items
taken-any_item (Ok true) was taken os items ok off through stopped = through refl [] off
taken-any_item (Ok false) was taken os items ok off through stopped =
    let s = (stopped refl).1 in s.3 [] off ∙ any_item-take s.0 items s.1 s.2
taken-any_item (Err e) was taken os items ok off through stopped = cc

-- a state that never stops went through
pub went_through : {X : Type 0} (more : Bool) → (more ≡ false → (false ≡ true) × X) → more ≡ true
went_through true stopped = refl
went_through false stopped = (stopped refl).0

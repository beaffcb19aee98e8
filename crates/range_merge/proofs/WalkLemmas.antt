-- Going over owners with two running truths: whether the left and the right side are on.
use Rattle.std.proofs.Common.{◌≡◌, ℕ, zero, suc, ◌≤◌, Bool, true, false, not, cond, List, [], ◌∷◌, ◌++◌, map, length, take, refl, sym, ap, ap₂, ◌∙◌, arith}
use Rattle.range_merge.specs.Boundaries.{is_odd}
use Rattle.range_merge.specs.Connective.{Table, differ}
use Rattle.range_merge.specs.Owners.{Owner, left_only, right_only, shared}
use Rattle.range_merge.specs.Changes.{Taken, from_left, from_right, taken_left, taken_right}
use Rattle.range_merge.specs.Walk.{walk}
use Rattle.range_merge.proofs.Parity.{is_odd-suc, differ-comm, differ-false, differ-not_both}

-- a function of a truth differs at its two values, whichever comes first
differ-flip : (g : Bool → Bool) (c : Bool) → differ (g c) (g (not c)) ≡ differ (g false) (g true)
differ-flip g true = differ-comm (g true) (g false)
differ-flip g false = refl

is_odd-step : (c : Bool) (n : ℕ) → differ (not c) (is_odd n) ≡ differ c (is_odd (suc n))
is_odd-step c n = differ-not_both c (is_odd n) ∙ ap (differ c) (sym (is_odd-suc n))

module _ {K : Type 0} where
  taken_left-zero : (d : Bool) (l : List K) → taken_left d 0 l ≡ []
  taken_left-zero true l = refl
  taken_left-zero false l = refl

  taken_right-zero : (d : Bool) (l : List K) → taken_right d 0 l ≡ []
  taken_right-zero true l = refl
  taken_right-zero false l = refl

  taken_left-suc : (d : Bool) (n : ℕ) (x : K) (l : List K) (w : List (Taken K)) → taken_left d (suc n) (x ∷ l) ++ w ≡ cond d (from_left x ∷ taken_left d n l ++ w) (taken_left d n l ++ w)
  taken_left-suc true n x l w = refl
  taken_left-suc false n x l w = refl

  taken_right-suc : (d : Bool) (n : ℕ) (x : K) (l : List K) (w : List (Taken K)) → taken_right d (suc n) (x ∷ l) ++ w ≡ cond d (from_right x ∷ taken_right d n l ++ w) (taken_right d n l ++ w)
  taken_right-suc true n x l w = refl
  taken_right-suc false n x l w = refl

  pub walk-left : (f : Table) (ac bc : Bool) (n : ℕ) (l : List K) (os : List (Owner K)) → n ≤ length l
      → walk f ac bc (map left_only (take n l) ++ os) ≡ taken_left (differ (f false bc) (f true bc)) n l ++ walk f (differ ac (is_odd n)) bc os
  walk-left f ac bc zero l os h =
      ap (λ c. walk f c bc os) (sym (differ-false ac)) ∙ ap (λ t. t ++ walk f (differ ac false) bc os) (sym (taken_left-zero (differ (f false bc) (f true bc)) l))
  walk-left f ac bc (suc n) [] os h = absurd (omega arith)
  walk-left f ac bc (suc n) (x ∷ l) os h =
      let d = differ (f false bc) (f true bc) in
      let rest = walk-left f (not ac) bc n l os (omega arith) ∙ ap (λ c. taken_left d n l ++ walk f c bc os) (is_odd-step ac n) in
      ap₂ (λ b w. cond b (from_left x ∷ w) w) (differ-flip (λ c. f c bc) ac) rest
      ∙ sym (taken_left-suc d n x l (walk f (differ ac (is_odd (suc n))) bc os))

  pub walk-right : (f : Table) (ac bc : Bool) (n : ℕ) (r : List K) (os : List (Owner K)) → n ≤ length r
      → walk f ac bc (map right_only (take n r) ++ os) ≡ taken_right (differ (f ac false) (f ac true)) n r ++ walk f ac (differ bc (is_odd n)) os
  walk-right f ac bc zero r os h =
      ap (λ c. walk f ac c os) (sym (differ-false bc)) ∙ ap (λ t. t ++ walk f ac (differ bc false) os) (sym (taken_right-zero (differ (f ac false) (f ac true)) r))
  walk-right f ac bc (suc n) [] os h = absurd (omega arith)
  walk-right f ac bc (suc n) (y ∷ r) os h =
      let d = differ (f ac false) (f ac true) in
      let rest = walk-right f ac (not bc) n r os (omega arith) ∙ ap (λ c. taken_right d n r ++ walk f ac c os) (is_odd-step bc n) in
      ap₂ (λ b w. cond b (from_right y ∷ w) w) (differ-flip (f ac) bc) rest
      ∙ sym (taken_right-suc d n y r (walk f ac (differ bc (is_odd (suc n))) os))

  taken_left-one : (d : Bool) (x : K) (l : List K) (w : List (Taken K)) → cond d (from_left x ∷ w) w ≡ taken_left d 1 (x ∷ l) ++ w
  taken_left-one true x l w = refl
  taken_left-one false x l w = refl

  pub walk-shared : (f : Table) (ac bc : Bool) (x y : K) (l : List K) (os : List (Owner K))
      → walk f ac bc (shared x y ∷ os) ≡ taken_left (differ (f ac bc) (f (not ac) (not bc))) 1 (x ∷ l) ++ walk f (not ac) (not bc) os
  walk-shared f ac bc x y l os = taken_left-one (differ (f ac bc) (f (not ac) (not bc))) x l (walk f (not ac) (not bc) os)

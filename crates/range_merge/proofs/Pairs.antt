-- A fact of each item and each later one, taken apart at the front of the list.
use Rattle.std.proofs.Common.{ℕ, zero, suc, List, [], ◌∷◌, drop, arith, All, AllPairs}

module _ {X : Type 0} (R : X → X → Type 0) where
  pub AllPairs-nil : AllPairs R []
  AllPairs-nil i j d below within = absurd (omega arith)

  pub AllPairs-head : (x : X) (xs : List X) → AllPairs R (x ∷ xs) → All (R x) xs
  AllPairs-head x xs h k d within = h 0 (suc k) d (omega arith) (omega arith)

  pub AllPairs-tail : (x : X) (xs : List X) → AllPairs R (x ∷ xs) → AllPairs R xs
  AllPairs-tail x xs h i j d below within = h (suc i) (suc j) d (omega arith) (omega arith)

  pub AllPairs-drop : (n : ℕ) (xs : List X) → AllPairs R xs → AllPairs R (drop n xs)
  AllPairs-drop zero xs h = h
  AllPairs-drop (suc n) [] h = h
  AllPairs-drop (suc n) (x ∷ xs) h = AllPairs-drop n xs (AllPairs-tail x xs h)

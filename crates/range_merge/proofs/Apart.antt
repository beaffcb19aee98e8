-- Copies that are the items themselves.
use Rattle.std.proofs.Common.{◌≡◌, List, [], ◌∷◌}
use Rattle.range_merge.specs.Changes.{Taken, from_left, from_right}
use Rattle.range_merge.specs.Copies.{AreCopies, AreOwnOrCopies}

module _ {K : Type 0} (alike : K → K → Type 0) (same : (x y : K) → alike x y → y ≡ x) where
  pub AreOwnOrCopies-plain : (ts : List (Taken K)) (xs : List K) → AreCopies alike ts xs → AreOwnOrCopies alike ts xs
  AreOwnOrCopies-plain [] [] h = tt
  AreOwnOrCopies-plain [] (x ∷ xs) h = h
  AreOwnOrCopies-plain (t ∷ ts) [] h = h
  AreOwnOrCopies-plain (from_left x ∷ ts) (y ∷ ys) h = (same x y h.0, AreOwnOrCopies-plain ts ys h.1)
  AreOwnOrCopies-plain (from_right x ∷ ts) (y ∷ ys) h = (h.0, AreOwnOrCopies-plain ts ys h.1)

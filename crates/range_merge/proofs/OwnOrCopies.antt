-- What a merge in place that borrows its right list keeps, run by run: the left's own items, and
-- copies of the right's.
use Rattle.std.proofs.Common.{◌≡◌, ℕ, zero, suc, Bool, true, false, List, [], ◌∷◌, ◌++◌, take, drop, map, refl}
use Rattle.std.specs.List.{AllZip}
use Rattle.range_merge.specs.Changes.{Taken, taken_left, taken_right, from_left, from_right}
use Rattle.range_merge.specs.Copies.{items_if, IsOwnOrCopy, AreOwnOrCopies}
use Rattle.range_merge.proofs.CopiesLemmas.{AllZip-append}

module _ {K : Type 0} (alike : K → K → Type 0) where
  pub AllZip-take : (n : ℕ) (xs ys : List K) → AllZip alike xs ys → AllZip alike (take n xs) (take n ys)
  AllZip-take zero xs ys h = tt
  AllZip-take (suc n) [] [] h = tt
  AllZip-take (suc n) [] (y ∷ ys) h = h
  AllZip-take (suc n) (x ∷ xs) [] h = h
  AllZip-take (suc n) (x ∷ xs) (y ∷ ys) h = (h.0, AllZip-take n xs ys h.1)

  pub AllZip-drop : (n : ℕ) (xs ys : List K) → AllZip alike xs ys → AllZip alike (drop n xs) (drop n ys)
  AllZip-drop zero xs ys h = h
  AllZip-drop (suc n) [] [] h = tt
  AllZip-drop (suc n) [] (y ∷ ys) h = absurd h
  AllZip-drop (suc n) (x ∷ xs) [] h = absurd h
  AllZip-drop (suc n) (x ∷ xs) (y ∷ ys) h = AllZip-drop n xs ys h.1

  own : (xs : List K) → AreOwnOrCopies alike (map from_left xs) xs
  own [] = tt
  own (x ∷ xs) = (refl, own xs)

  copied : (xs ys : List K) → AllZip alike xs ys → AreOwnOrCopies alike (map from_right xs) ys
  copied [] [] h = tt
  copied [] (y ∷ ys) h = h
  copied (x ∷ xs) [] h = h
  copied (x ∷ xs) (y ∷ ys) h = (h.0, copied xs ys h.1)

  left-if : (wanted : Bool) (n : ℕ) (left : List K) → AreOwnOrCopies alike (taken_left wanted n left) (items_if wanted (take n left))
  left-if true n left = own (take n left)
  left-if false n left = tt

  pub AreOwnOrCopies-put : (right kept new : List K) (n : ℕ) (ts : List (Taken K)) → AllZip alike (take n right) new
      → AreOwnOrCopies alike ts kept → AreOwnOrCopies alike (ts ++ taken_right true n right) (kept ++ new)
  AreOwnOrCopies-put right kept new n ts alike_to so_far =
      AllZip-append (IsOwnOrCopy alike) ts kept (taken_right true n right) new so_far (copied (take n right) new alike_to)

  pub AreOwnOrCopies-left : (wanted : Bool) (n : ℕ) (left kept kept' : List K) (before : List (Taken K)) → kept' ≡ kept ++ items_if wanted (take n left)
      → AreOwnOrCopies alike before kept → AreOwnOrCopies alike (before ++ taken_left wanted n left) kept'
  AreOwnOrCopies-left wanted n left kept kept' before more so_far =
      rw more (AllZip-append (IsOwnOrCopy alike) before kept (taken_left wanted n left) (items_if wanted (take n left)) so_far (left-if wanted n left))

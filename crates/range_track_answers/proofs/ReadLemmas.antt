-- Bytes that are read one after another.
use Rattle.std.proofs.Common.{◌≡◌, refl, sym, ap, ◌∙◌, ℕ, suc, zero, List, [], ◌∷◌, ◌++◌, take}
use Rattle.std.specs.Prelude.{Option, Some, None, IfSome}
use Rattle.std.specs.Io.KnownBytes.{Consumes, IsAtEnd}
use Rattle.std.proofs.lemmas.List.{append-nil}

pub IfSome-start : (known : Option (List ℕ)) → IfSome known (λ text. (rest : List ℕ) × (known ≡ Some rest) × (text ≡ [] ++ rest))
IfSome-start None = tt
IfSome-start (Some xs) = (xs, refl, refl)

-- one more byte of the text was read
pub more_read : (old new : Option (List ℕ)) (b : ℕ) (done rest text : List ℕ) → Consumes old new (b ∷ []) → old ≡ Some rest → text ≡ done ++ rest →
    (more : List ℕ) × (new ≡ Some more) × (text ≡ done ++ b ∷ more)
more_read None new b done rest text h e t = cc
more_read (Some xs) None b done rest text h e t = absurd h
more_read (Some xs) (Some ys) b done rest text h e t =
    let same : xs ≡ rest = cc in
    (ys, refl, t ∙ ap (λ zs. done ++ zs) (sym same ∙ h))

-- nothing of the text is left
pub all_read : (old : Option (List ℕ)) (done rest text : List ℕ) → IsAtEnd old → old ≡ Some rest → text ≡ done ++ rest → text ≡ done
all_read None done rest text h e t = cc
all_read (Some xs) done rest text h e t =
    let same : xs ≡ rest = cc in
    t ∙ ap (λ zs. done ++ zs) (sym same ∙ h) ∙ append-nil done

-- what is kept of a list stays what is kept of it with more after it
pub take-take_append : (n : ℕ) (xs ys : List ℕ) → take n (take n xs ++ ys) ≡ take n (xs ++ ys)
take-take_append zero xs ys = refl
take-take_append (suc n) [] ys = refl
take-take_append (suc n) (x ∷ xs) ys = ap (λ zs. x ∷ zs) (take-take_append n xs ys)

-- The range with so many before it is the first of the ranges of what is left of the list.
use Rattle.std.proofs.Common.{◌≡◌, refl, sym, ap, ◌∙◌, ℕ, zero, suc, ◌*◌, ◌/◌, ◌<◌, List, [], ◌∷◌, length, drop, None, slice_get, arith}
use Rattle.range_collections.specs.Ranges.{ranges_of}

twice : (i : ℕ) → 2 * suc i ≡ suc (suc (2 * i))
twice i = omega arith

pub get-ranges_of : {K : Type 0} (i : ℕ) (items : List K) → slice_get (ranges_of items) i ≡ slice_get (ranges_of (drop (2 * i) items)) 0
get-ranges_of zero items = refl
get-ranges_of (suc i) [] = ap (λ n. slice_get (ranges_of (drop n [])) 0) (sym (twice i))
get-ranges_of (suc i) (x ∷ []) = ap (λ n. slice_get (ranges_of (drop n (x ∷ []))) 0) (sym (twice i))
get-ranges_of (suc i) (x ∷ y ∷ rest) = get-ranges_of i rest ∙ ap (λ n. slice_get (ranges_of (drop n (x ∷ y ∷ rest))) 0) (sym (twice i))

pub no_range : {K : Type 0} (i : ℕ) (items : List K) → length items / 2 < i → slice_get (ranges_of items) i ≡ None
no_range i [] h = refl
no_range zero (x ∷ []) h = absurd (omega (arith, h))
no_range (suc i) (x ∷ []) h = refl
no_range zero (x ∷ y ∷ rest) h = absurd (omega (arith, h))
no_range (suc i) (x ∷ y ∷ rest) h = no_range i rest (omega (arith, h))

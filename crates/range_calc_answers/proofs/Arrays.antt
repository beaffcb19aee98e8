-- The compact text of an array of whole numbers.
use Rattle.std.proofs.Common.{◌≡◌, ℤ, pos, negsuc, true, false, List, [], ◌∷◌, ◌++◌, map, refl, sym, ap, append_assoc, codes}
use Rattle.std.specs.List.{flat_map}
use Rattle.std.specs.Fmt.{signed_decimal}
use Rattle.serde_json.specs.Find.{of_integer}
use Rattle.serde_json.specs.View.{items_of}
use Rattle.serde_json.specs.Written.{has_float, items_have_float, compact_text, items_text, number_text}
use Rattle.range_collections.specs.Json.{array_of, number_data}
use Rattle.range_calc_answers.specs.Line.{array_text}

number_text-of_integer : (z : ℤ) → number_text (of_integer z) ≡ signed_decimal z
number_text-of_integer (pos n) = refl
number_text-of_integer (negsuc n) = refl

has_float-number_data : (z : ℤ) → has_float (number_data z) ≡ false
has_float-number_data (pos n) = refl
has_float-number_data (negsuc n) = refl

items_have_float-numbers : (zs : List ℤ) → items_have_float (items_of (map number_data zs)) ≡ false
items_have_float-numbers [] = refl
items_have_float-numbers (z ∷ zs) = rw (has_float-number_data z, items_have_float-numbers zs) refl

pub has_float-array_of : (zs : List ℤ) → has_float (array_of zs) ≡ false
has_float-array_of zs = items_have_float-numbers zs

items_text-numbers : (zs : List ℤ) → items_text true (items_of (map number_data zs)) ≡ flat_map (λ z. codes "," ++ signed_decimal z) zs ++ codes "]"
items_text-numbers [] = refl
items_text-numbers (z ∷ zs) =
    rw (number_text-of_integer z, items_text-numbers zs)
    (ap (λ bytes. 44 ∷ bytes) (sym (append_assoc (signed_decimal z) (flat_map (λ y. codes "," ++ signed_decimal y) zs) (codes "]"))))

pub compact_text-array_of : (zs : List ℤ) → compact_text (array_of zs) ≡ array_text zs
unfolding array_text
compact_text-array_of [] = refl
compact_text-array_of (z ∷ zs) =
    rw (number_text-of_integer z, items_text-numbers zs)
    (ap (λ bytes. 91 ∷ bytes) (sym (append_assoc (signed_decimal z) (flat_map (λ y. codes "," ++ signed_decimal y) zs) (codes "]"))))

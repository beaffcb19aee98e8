-- Places lie within the list.
use Rattle.std.proofs.Common.{ℕ, zero, suc, ◌+◌, ◌≤◌, List, [], ◌∷◌, length, take, get_or, arith}
use Rattle.std.proofs.lemmas.List.{length-append}
use Rattle.range_list.specs.declared.place.Place.{Place}
use Rattle.range_list.specs.Lists.{joined, start_in, place_at, IsPlaceAt}

module _ {T : Type 0} where
  start_in-within : (lists : List (List T)) (k : ℕ) → start_in lists k + length (get_or lists k []) ≤ length (joined lists)
  start_in-within [] zero = omega arith
  start_in-within [] (suc k) = omega arith
  start_in-within (x ∷ lists) zero = omega (arith, length-append x (joined lists))
  start_in-within (x ∷ lists) (suc k) = omega (arith, length-append x (joined lists), length-append x (joined (take k lists)), start_in-within lists k)

  pub place_at-within : (lists : List (List T)) (p : Place) → IsPlaceAt lists p → place_at lists p ≤ length (joined lists)
  place_at-within lists p here = omega (arith, start_in-within lists p.chunk, here.index)

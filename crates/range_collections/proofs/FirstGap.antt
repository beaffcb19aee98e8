-- The first gap that has `count` values lies between the ends, and its start is no member.
use Rattle.std.proofs.Common.{◌≡◌, refl, sym, ap, subst, ℕ, Bool, true, false, Option, Some, None, List, [], ◌∷◌, All, Contains, filter, drop, slice_get, arith}
use Rattle.std.specs.Cmp.{IsTotalOrder}
use Rattle.std.specs.Option.{option_map}
use Rattle.std.specs.Ordering.{is_le}
use Rattle.std.proofs.lemmas.List.Elements.{All-nil, All-cons, All-head, All-filter, All-contains, All-from_get_or, Contains-get_or}
use Rattle.std.specs.declared.cmp.Ordering.{Ordering}
use Rattle.std.specs.declared.cmp.Ordering.TheVariants.{Less}
use Rattle.range_merge.proofs.Orders.{Equal-self}
use Rattle.range_merge.proofs.RunsLemmas.{cons-from_slice_get}
use Rattle.range_merge.specs.Boundaries.{IsAscending, member}
use Rattle.range_collections.specs.Ranges.{ranges_of, range_start, IsInRange}
use Rattle.range_collections.proofs.Ascending.{IsAscending-tail}
use Rattle.range_collections.proofs.PartsLaws.{Any-gaps}
use Rattle.range_collections.specs.declared.range_set_range.RangeSetRange.{RangeSetRange}
use Rattle.range_collections.specs.Fits.{IsFirstFit, has_values}

-- the first item at which a test gives true is in the list
contains-first : {X : Type 0} (test : X → Bool) (xs : List X) (x : X) → slice_get (filter test xs) 0 ≡ Some x → Contains xs x
contains-first test xs x first =
    All-head (Contains xs) x (drop 1 (filter test xs))
    (subst (All (Contains xs)) (cons-from_slice_get x (filter test xs) first)
    (All-filter test (Contains xs) xs (All-from_get_or (Contains xs) xs x (λ i below. Contains-get_or xs i x below))))

module _ {K : Type 0} {order : K → K → Ordering} (o : IsTotalOrder order) where
  -- each range of a strictly sorted list has its own start
  starts-within : (items : List K) → IsAscending order items → All (λ r. IsInRange order r (range_start r)) (ranges_of items)
  starts-within [] up = All-nil (λ r. IsInRange order r (range_start r))
  starts-within (x ∷ []) up =
      All-cons (λ r. IsInRange order r (range_start r)) _ [] (ap is_le (Equal-self o x)) (All-nil (λ r. IsInRange order r (range_start r)))
  starts-within (x ∷ y ∷ rest) up =
      All-cons (λ r. IsInRange order r (range_start r)) _ (ranges_of rest)
      (ap is_le (Equal-self o x), up 0 1 x (omega arith) (omega arith))
      (starts-within rest (IsAscending-tail order y rest (IsAscending-tail order x (y ∷ rest) up)))

  module _ (place : K → ℕ) (items : List K) (start end x : K) (count : ℕ) where
    pub found-in_gap : IsFirstFit order place items start end count (Some x) →
        (is_le (order start x) ≡ true) × (order x end ≡ Less) × (member order items x ≡ false)
    found-in_gap fit = of_found (slice_get (filter (has_values order place count) (ranges_of fit.gaps)) 0) refl fit.first
      where
        of_found : (found : Option (RangeSetRange K)) → slice_get (filter (has_values order place count) (ranges_of fit.gaps)) 0 ≡ found →
            Some x ≡ option_map range_start found →
            (is_le (order start x) ≡ true) × (order x end ≡ Less) × (member order items x ≡ false)
        of_found None e none = absurd (let no : Some x ≡ None = none in cc)
        of_found (Some r) e same =
            let at : x ≡ range_start r = cc in
            let there : Contains (ranges_of fit.gaps) r = contains-first (has_values order place count) (ranges_of fit.gaps) r e in
            let within : IsInRange order r (range_start r) =
            All-contains (λ r. IsInRange order r (range_start r)) (ranges_of fit.gaps) r (starts-within fit.gaps fit.are_gaps.sorted) there in
            (Any-gaps o start end x items fit.gaps fit.are_gaps).0 (there.0, r, there.1, there.2, subst (IsInRange order r) (sym at) within)

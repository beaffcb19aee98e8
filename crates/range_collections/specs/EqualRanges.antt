-- Equality of ranges, and that it has the laws of an equality.
--     eq_range eq range other     both have an end or neither has, and the ends are equal in pairs
use Rattle.std.specs.Prelude.{◌≡◌, Bool, true, false, ◌&&◌, refl}
use Rattle.std.specs.Cmp.{IsPartialEquivalence, IsEquivalence, and_per, on_per, partial_equiv_from_equiv, equiv}
use Rattle.std.specs.Ordering.{eq_of_both, on}
use Rattle.std.specs.declared.ops.Range.{Range as Ends}
use Rattle.range_collections.specs.declared.range_set_range.RangeSetRange.{RangeSetRange}
use Rattle.range_collections.specs.declared.range_set_range.RangeSetRange.TheVariants.{Range, RangeFrom}

module _ {K : Type 0} (eq : K → K → Bool) where
  -- both ranges have an end or neither has, the starts are equal, and so are the ends
  abbrev pub eq_range : RangeSetRange K → RangeSetRange K → Bool
  eq_range (Range r) (Range s) = eq r.start s.start && eq r.end s.end
  eq_range (Range r) (RangeFrom s) = false
  eq_range (RangeFrom r) (Range s) = false
  eq_range (RangeFrom r) (RangeFrom s) = eq r.start s.start

  -- where the elements' equality is symmetric and transitive, so is that of ranges
  pub eq_range-per : IsPartialEquivalence eq → IsPartialEquivalence eq_range
  eq_range-per p = record { symm = turned; trans = chained } where
    both : IsPartialEquivalence
        (eq_of_both (on (λ (r : Ends K). r.start) eq) (on (λ (r : Ends K). r.end) eq))
    both = and_per (on_per (λ (r : Ends K). r.start) p) (on_per (λ (r : Ends K). r.end) p)

    turned : (x y : RangeSetRange K) → eq_range x y ≡ eq_range y x
    turned (Range r) (Range s) = both.symm r s
    turned (Range r) (RangeFrom s) = refl
    turned (RangeFrom r) (Range s) = refl
    turned (RangeFrom r) (RangeFrom s) = p.symm r.start s.start

    chained : (x y z : RangeSetRange K) → eq_range x y ≡ true → eq_range y z ≡ true →
        eq_range x z ≡ true
    chained (Range r) (Range s) (Range t) h k = both.trans r s t h k
    chained (Range r) (Range s) (RangeFrom t) h k = k
    chained (Range r) (RangeFrom s) z h k = cc
    chained (RangeFrom r) (Range s) z h k = cc
    chained (RangeFrom r) (RangeFrom s) (Range t) h k = k
    chained (RangeFrom r) (RangeFrom s) (RangeFrom t) h k = p.trans r.start s.start t.start h k

  -- where each element equals itself too, so does each range
  pub eq_range-equiv : IsEquivalence eq → IsEquivalence eq_range
  eq_range-equiv e = equiv (eq_range-per (partial_equiv_from_equiv e)) itself where
    itself : (x : RangeSetRange K) → eq_range x x ≡ true
    itself (Range r) = rw (e.refl r.start) (e.refl r.end)
    itself (RangeFrom r) = e.refl r.start

-- The last of the ranges that hold an element.
use Rattle.std.proofs.Common.{Bool, true, false, cond, List, [], ◌∷◌, Option, Some}
use Rattle.std.specs.Cmp.{IsEquivalence}
use Rattle.std.specs.Cmp.Lexicographic.{options_equiv}
use Rattle.std.specs.declared.cmp.Ordering.{Ordering}
use Rattle.std.specs.declared.ops.Range.{Range}
use Rattle.range_map.specs.Steps.{AreAlike}
use Rattle.range_map.specs.Changed.{is_in_range}
use Rattle.range_map.specs.Pairs.{last_at}

module _ {K V : Type 0} (order : K → K → Ordering) (E : V → V → Bool) (e : IsEquivalence E) where
  cond-alike : (b : Bool) (v p q : Option V) → AreAlike E p q → AreAlike E (cond b v p) (cond b v q)
  cond-alike true v p q h = (options_equiv e).refl v
  cond-alike false v p q h = h

  pub last_at-alike : (qs : List (Range K × V)) (p q : Option V) (x : K) → AreAlike E p q → AreAlike E (last_at order qs p x) (last_at order qs q x)
  last_at-alike [] p q x h = h
  last_at-alike (r ∷ qs) p q x h =
      last_at-alike qs (cond (is_in_range order r.0.start (Some r.0.end) x) (Some r.1) p) (cond (is_in_range order r.0.start (Some r.0.end) x) (Some r.1) q) x
      (cond-alike (is_in_range order r.0.start (Some r.0.end) x) (Some r.1) p q h)

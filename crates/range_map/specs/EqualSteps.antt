-- Equality of maps, and that it has the laws of an equality.
--     eq_steps eq E a b    the keys are equal one by one, and so are the options
use Rattle.std.specs.Prelude.{Bool}
use Rattle.std.specs.Cmp.{IsEquivalence, and_equiv, on_equiv}
use Rattle.std.specs.Cmp.Lexicographic.{pointwise, lists_equiv, options_equiv}
use Rattle.std.specs.Option.{option_eq}
use Rattle.std.specs.Ordering.{eq_of_both, on}
use Rattle.range_map.specs.Steps.{Steps}

-- the keys are equal one by one, and so are the options
abbrev pub eq_steps : {K V : Type 0} → (K → K → Bool) → (V → V → Bool) → Steps K V → Steps K V → Bool
eq_steps eq E =
    eq_of_both (on (λ m. m.keys) (pointwise eq)) (on (λ m. m.options) (pointwise (option_eq E)))

module _ {K V : Type 0} {eq : K → K → Bool} {E : V → V → Bool} where
  -- where keys and values have an equality, so do maps
  pub eq_steps-equiv : IsEquivalence eq → IsEquivalence E → IsEquivalence (eq_steps eq E)
  eq_steps-equiv k v =
      and_equiv (on_equiv (λ (m : Steps K V). m.keys) (lists_equiv k))
      (on_equiv (λ (m : Steps K V). m.options) (lists_equiv (options_equiv v)))

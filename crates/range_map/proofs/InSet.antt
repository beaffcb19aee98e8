-- What lies in a set, or outside it, by the map that has the unit on its members.
use Rattle.std.proofs.Common.{◌≡◌, Bool, true, false, cond, Option, None, List, length, refl, sym, ap, ap₂, ◌∙◌}
use Rattle.std.specs.Bool.{beq}
use Rattle.std.specs.Borrow.{Bor}
use Rattle.std.specs.Option.{option_eq, is_some}
use Rattle.std.specs.declared.cmp.Ordering.{Ordering}
use Rattle.range_merge.specs.Boundaries.{member}
use Rattle.range_map.specs.Steps.{Steps, value_at, AreAlike}
use Rattle.range_map.specs.Changed.{IsCombined}
use Rattle.range_map.specs.Read.{steps_read}
use Rattle.range_map.specs.Units.{on_off}
use Rattle.range_map.specs.declared.step.Step.{Step}
use Rattle.range_map.proofs.Setlike.{value_at-on_off, is_some-unit}

inside-cond : {V : Type 0} (m : Bool) (p : Option V) → cond m p None ≡ cond (beq m true) p None
inside-cond true p = refl
inside-cond false p = refl

outside-cond : {V : Type 0} (m : Bool) (p : Option V) → cond m None p ≡ cond (beq m false) p None
outside-cond true p = refl
outside-cond false p = refl

module _ {K V : Type 0} (order : K → K → Ordering) (E : V → V → Bool) (items : List K) (refs list : List (Step (Bor K) (Bor (Unit {0})))) (b : Steps K (Unit {0}))
    (is : b ≡ steps_read refs) (same : refs ≡ list) (keys : (steps_read list).keys ≡ items) (options : (steps_read list).options ≡ on_off true (length items)) where
  member-unit : (x : K) → member order items x ≡ is_some (value_at order b x)
  member-unit x =
      sym (ap (λ (m : Steps K (Unit {0})). is_some (value_at order m x)) is
      ∙ ap (λ (ss : List (Step (Bor K) (Bor (Unit {0})))). is_some (value_at order (steps_read ss) x)) same
      ∙ ap₂ (λ ks ws. is_some (value_at order (record { keys = ks; options = ws }) x)) keys options
      ∙ ap is_some (value_at-on_off order items x)
      ∙ is_some-unit (member order items x))

  module _ (a r : Steps K V) where
    pub values-inside : IsCombined order E (λ p q. cond (beq (is_some q) true) p None) a b r → (x : K) →
        AreAlike E (value_at order r x) (cond (member order items x) (value_at order a x) None)
    values-inside all x =
        ap (option_eq E (value_at order r x))
        (inside-cond (member order items x) (value_at order a x)
        ∙ ap (λ m. cond (beq m true) (value_at order a x) None) (member-unit x))
        ∙ all x

    pub values-outside : IsCombined order E (λ p q. cond (beq (is_some q) false) p None) a b r → (x : K) →
        AreAlike E (value_at order r x) (cond (member order items x) None (value_at order a x))
    values-outside all x =
        ap (option_eq E (value_at order r x))
        (outside-cond (member order items x) (value_at order a x)
        ∙ ap (λ m. cond (beq m false) (value_at order a x) None) (member-unit x))
        ∙ all x

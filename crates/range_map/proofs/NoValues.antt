-- A map without steps, and only that, has no values.
use Rattle.std.proofs.Common.{◌≡◌, ◌↔◌, ◌==◌, IsTrue, inl, inr, Bool, Option, None, List, [], ◌∷◌, length, refl, sym, ap, ◌∙◌, arith, true≢false}
use Rattle.std.proofs.lemmas.Bool.Decides.{eqb_tells}
use Rattle.std.specs.Option.{option_eq}
use Rattle.std.specs.Cmp.{IsTotalOrder}
use Rattle.std.specs.declared.cmp.Ordering.{Ordering}
use Rattle.range_merge.specs.Boundaries.{IsAscending}
use Rattle.range_merge.proofs.Orders.{Equal-self}
use Rattle.range_map.specs.Steps.{Steps, value_at, IsCanonical}
use Rattle.range_map.proofs.Along.{along, along-first, value_at-along}
use Rattle.range_map.proofs.Differing.{Differ, Differ-from_adjacent}

module _ {K V : Type 0} (order : K → K → Ordering) (o : IsTotalOrder order) (E : V → V → Bool) where
  along_none : (ks : List K) (ws : List (Option V)) (r : Bool) → IsAscending order ks → length ws ≡ length ks → Differ (option_eq E) None ws →
      r ≡ (length ks == 0) → IsTrue r ↔ ((x : K) → along order None ks ws x ≡ None)
  along_none [] ws r up same differ e = (λ _ x. refl, λ _. e)
  along_none (k ∷ ks) [] r up same differ e = absurd (omega (arith, same))
  along_none (k ∷ ks) (w ∷ ws) r up same differ e = (
    λ t. absurd (elim (eqb_tells (length (k ∷ ks)) 0) as (λ _. ⊥) [
      | inl none ↦ omega (arith, none.1)
      | inr more ↦ true≢false (sym t ∙ e ∙ more.0)
    ]),
    λ none. absurd (true≢false (sym (ap (option_eq E None) (sym (along-first order o None k ks w ws k up (Equal-self o k)) ∙ none k)) ∙ differ.0)),
  )

  pub IsTrue-no_values : (m : Steps K V) (r : Bool) → IsCanonical order E m → r ≡ (length m.keys == 0) →
      IsTrue r ↔ ((x : K) → value_at order m x ≡ None)
  IsTrue-no_values m r canonical e =
      let both = along_none m.keys m.options r canonical.ascending canonical.one_each (Differ-from_adjacent (option_eq E) None m.options canonical.changes) e in (
        λ t x. value_at-along order o E m x canonical ∙ both.0 t x,
        λ none. both.1 (λ x. sym (value_at-along order o E m x canonical) ∙ none x),
      )

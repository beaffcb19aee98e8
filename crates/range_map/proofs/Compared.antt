-- Steps compared one by one: copies of a map, and its equality.
use Rattle.std.proofs.Common.{◌≡◌, ◌↔◌, ◌&&◌, Bool, true, false, None, List, [], ◌∷◌, refl, sym, ap, ap₂, ◌∙◌, true≢false}
use Rattle.std.specs.List.{AllZip}
use Rattle.std.specs.Option.{option_eq}
use Rattle.std.specs.Cmp.{IsTotalOrder, IsEquivalence}
use Rattle.std.specs.Cmp.Lexicographic.{pointwise, options_equiv}
use Rattle.std.specs.Ordering.{eq_by_cmp, is_eq}
use Rattle.std.proofs.lemmas.List.Elements.{length_all_zip}
use Rattle.std.specs.declared.cmp.Ordering.{Ordering}
use Rattle.std.specs.declared.cmp.Ordering.TheVariants.{Less, Equal, Greater}
use Rattle.range_collections.proofs.Values.{IsAscending-equal}
use Rattle.range_map.specs.Steps.{Steps, AreAlike, IsCanonical, IsSameMap, AreEqualSteps}
use Rattle.range_map.specs.EqualSteps.{eq_steps}
use Rattle.range_map.proofs.Differing.{Differ, Differ-from_adjacent, AllAdjacent-from_differ}
use Rattle.range_map.proofs.Uniqueness.{AreEqualSteps-from_same, IsSameMap-from_equal}

and_both : (b c : Bool) → (b && c) ≡ true → (b ≡ true) × (c ≡ true)
and_both true true h = (refl, refl)
and_both true false h = absurd (true≢false (sym h))
and_both false c h = absurd (true≢false (sym h))

module _ {X : Type 0} (E : X → X → Bool) (R : X → X → Type 0) (to : (x y : X) → E x y ≡ true → R x y) (from : (x y : X) → R x y → E x y ≡ true) where
  AllZip-from_pointwise : (xs ys : List X) → pointwise E xs ys ≡ true → AllZip R xs ys
  AllZip-from_pointwise [] [] h = tt
  AllZip-from_pointwise [] (y ∷ ys) h = absurd (true≢false (sym h))
  AllZip-from_pointwise (x ∷ xs) [] h = absurd (true≢false (sym h))
  AllZip-from_pointwise (x ∷ xs) (y ∷ ys) h = let both = and_both (E x y) (pointwise E xs ys) h in (to x y both.0, AllZip-from_pointwise xs ys both.1)

  pointwise-from_AllZip : (xs ys : List X) → AllZip R xs ys → pointwise E xs ys ≡ true
  pointwise-from_AllZip [] [] h = refl
  pointwise-from_AllZip [] (y ∷ ys) h = absurd h
  pointwise-from_AllZip (x ∷ xs) [] h = absurd h
  pointwise-from_AllZip (x ∷ xs) (y ∷ ys) h = ap₂ (λ b c. b && c) (from x y h.0) (pointwise-from_AllZip xs ys h.1)

Equal-from_is_eq : (v : Ordering) → is_eq v ≡ true → v ≡ Equal
Equal-from_is_eq Less h = absurd (true≢false (sym h))
Equal-from_is_eq Equal h = refl
Equal-from_is_eq Greater h = absurd (true≢false (sym h))

-- options one by one like others that differ from their neighbours differ from theirs
Differ-zip : {W : Type 0} (E : W → W → Bool) → IsEquivalence E → (p q : W) (ws us : List W) → E p q ≡ true → AllZip (λ v w. E v w ≡ true) ws us → Differ E p ws → Differ E q us
Differ-zip E e p q [] [] first h d = tt
Differ-zip E e p q [] (u ∷ us) first h d = absurd h
Differ-zip E e p q (w ∷ ws) [] first h d = absurd h
Differ-zip E e p q (w ∷ ws) (u ∷ us) first h d = (
  sym (e.congr p q u first) ∙ e.symm p u ∙ sym (e.congr w u p h.0) ∙ e.symm w p ∙ d.0,
  Differ-zip E e w u ws us h.0 h.1 d.1,
)

module _ {K V : Type 0} (order : K → K → Ordering) (o : IsTotalOrder order) (E : V → V → Bool) (e : IsEquivalence E) where
  -- steps that are equal one by one to those of a map are those of a map
  pub IsCanonical-equal : (a b : Steps K V) → IsCanonical order E a → AreEqualSteps order E a b → IsCanonical order E b
  IsCanonical-equal a b c equal =
      record {
        ascending = IsAscending-equal o a.keys b.keys equal.0 c.ascending;
        one_each = sym (length_all_zip (λ p q. AreAlike E p q) a.options b.options equal.1) ∙ c.one_each ∙ length_all_zip (λ x y. order x y ≡ Equal) a.keys b.keys equal.0;
        changes = AllAdjacent-from_differ (option_eq E) None b.options
            (Differ-zip (option_eq E) (options_equiv e) None None a.options b.options refl equal.1 (Differ-from_adjacent (option_eq E) None a.options c.changes));
      }

  pub IsTrue-eq_steps : (eq : K → K → Bool) → ((x y : K) → eq x y ≡ eq_by_cmp order x y) → (a b : Steps K V) (r : Bool) →
      IsCanonical order E a → IsCanonical order E b → r ≡ eq_steps eq E a b → (r ≡ true) ↔ IsSameMap order E a b
  IsTrue-eq_steps eq ties a b r ca cb is = (
    λ t.
        let both = and_both (pointwise eq a.keys b.keys) (pointwise (option_eq E) a.options b.options) (sym is ∙ t) in
        IsSameMap-from_equal order o E e a b ca cb (
          AllZip-from_pointwise eq (λ x y. order x y ≡ Equal) to from a.keys b.keys both.0,
          AllZip-from_pointwise (option_eq E) (λ p q. AreAlike E p q) (λ p q h. h) (λ p q h. h) a.options b.options both.1,
        ),
    λ same.
        let equal = AreEqualSteps-from_same order o E e a b ca cb same in
        is ∙ ap₂ (λ s t. s && t) (pointwise-from_AllZip eq (λ x y. order x y ≡ Equal) to from a.keys b.keys equal.0)
        (pointwise-from_AllZip (option_eq E) (λ p q. AreAlike E p q) (λ p q h. h) (λ p q h. h) a.options b.options equal.1),
  )
    where
      to : (x y : K) → eq x y ≡ true → order x y ≡ Equal
      to x y h = Equal-from_is_eq (order x y) (sym (ties x y) ∙ h)

      from : (x y : K) → order x y ≡ Equal → eq x y ≡ true
      from x y h = ties x y ∙ ap is_eq h

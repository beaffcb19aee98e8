-- Maps with equal values everywhere have equal steps, and the other way round.
use Rattle.std.proofs.Common.{◌≡◌, Bool, true, None, List, [], ◌∷◌, length, refl, sym, ap, ap₂, ◌∙◌, arith, true≢false}
use Rattle.std.specs.List.{AllZip}
use Rattle.std.specs.Option.{option_eq}
use Rattle.std.specs.Cmp.{IsTotalOrder, IsEquivalence}
use Rattle.std.specs.Cmp.Lexicographic.{options_equiv}
use Rattle.std.specs.declared.cmp.Ordering.{Ordering}
use Rattle.std.specs.declared.cmp.Ordering.TheVariants.{Less, Equal}
use Rattle.std.specs.Ordering.{is_le}
use Rattle.range_merge.specs.Boundaries.{IsAscending}
use Rattle.range_merge.proofs.Pairs.{AllPairs-tail}
use Rattle.range_merge.proofs.Members.{by_Ordering}
use Rattle.range_merge.proofs.Orders.{Greater-from_less, Equal-self}
use Rattle.range_collections.proofs.Shortest.{is_le-cases}
use Rattle.range_map.specs.Steps.{Steps, IsCanonical, IsSameMap, AreEqualSteps}
use Rattle.range_map.proofs.Along.{along, along-in, along-out, along-below, along-first, above_later, value_at-along}
use Rattle.range_map.proofs.Differing.{Differ, Differ-from_adjacent}

module _ {K W : Type 0} (order : K → K → Ordering) (o : IsTotalOrder order) (E : W → W → Bool) (e : IsEquivalence E) where
  -- readings that find equal options at each element have equal keys and equal options
  pub steps-from_along : (p q : W) (ka kb : List K) (va vb : List W) →
      IsAscending order ka → IsAscending order kb → length va ≡ length ka → length vb ≡ length kb →
      Differ E p va → Differ E q vb → E p q ≡ true →
      ((x : K) → E (along order p ka va x) (along order q kb vb x) ≡ true) →
      AllZip (λ x y. order x y ≡ Equal) ka kb × AllZip (λ v w. E v w ≡ true) va vb
  steps-from_along p q [] [] [] [] up vp same samb dp dq first h = (tt, tt)
  steps-from_along p q [] (y ∷ ys) [] (w ∷ ws) up vp same samb dp dq first h =
      absurd (true≢false (sym (h y) ∙ ap (E p) (along-first order o q y ys w ws y vp (Equal-self o y)) ∙ e.congr p q w first ∙ dq.0))
  steps-from_along p q (x ∷ xs) [] (v ∷ vs) [] up vp same samb dp dq first h =
      absurd (true≢false (sym (h x) ∙ ap (λ u. E u q) (along-first order o p x xs v vs x up (Equal-self o x)) ∙ e.symm v q ∙ sym (e.congr p q v first) ∙ dp.0))
  steps-from_along p q (x ∷ xs) (y ∷ ys) (v ∷ vs) (w ∷ ws) up vp same samb dp dq first h =
      let R = λ (y z : K). order y z ≡ Less in
      by_Ordering (order x y)
      (λ l.
      absurd (true≢false (sym (h x)
      ∙ ap (λ u. E u (along order q (y ∷ ys) (w ∷ ws) x)) (along-first order o p x xs v vs x up (Equal-self o x))
      ∙ ap (E v) (along-out order q y ys w ws x (Greater-from_less o x y l))
      ∙ e.symm v q ∙ sym (e.congr p q v first) ∙ dp.0)))
      (λ eq.
      let one : E v w ≡ true =
      sym (ap (λ u. E u (along order q (y ∷ ys) (w ∷ ws) y)) (along-first order o p x xs v vs y up eq) ∙ ap (E v) (along-first order o q y ys w ws y vp (Equal-self o y))) ∙ h y in
      let rest = steps-from_along v w xs ys vs ws (AllPairs-tail R x xs up) (AllPairs-tail R y ys vp) (omega (arith, same)) (omega (arith, samb)) dp.1 dq.1 one
      (λ z. is_le-cases (order x z)
      (λ l. inside x y xs ys v w vs ws z h l (ap is_le (sym (o.congr x y z eq)) ∙ l))
      (λ g. ap (λ u. E u (along order w ys ws z)) (along-below order v xs vs z (above_later order o x xs z up g))
      ∙ ap (E v) (along-below order w ys ws z (above_later order o y ys z vp (sym (o.congr x y z eq) ∙ g)))
      ∙ one)) in
      ((eq, rest.0), (one, rest.1)))
      (λ g.
      absurd (true≢false (sym (h y)
      ∙ ap (λ u. E u (along order q (y ∷ ys) (w ∷ ws) y)) (along-out order p x xs v vs y g)
      ∙ ap (E p) (along-first order o q y ys w ws y vp (Equal-self o y))
      ∙ e.congr p q w first ∙ dq.0)))
    where
      inside : (x y : K) (xs ys : List K) (v w : W) (vs ws : List W) (z : K) →
          ((x1 : K) → E (along order p (x ∷ xs) (v ∷ vs) x1) (along order q (y ∷ ys) (w ∷ ws) x1) ≡ true) →
          is_le (order x z) ≡ true → is_le (order y z) ≡ true → E (along order v xs vs z) (along order w ys ws z) ≡ true
      inside x y xs ys v w vs ws z h i j =
          sym (ap (λ u. E u (along order q (y ∷ ys) (w ∷ ws) z)) (along-in order p x xs v vs z i) ∙ ap (E (along order v xs vs z)) (along-in order q y ys w ws z j)) ∙ h z
  steps-from_along p q [] (y ∷ ys) [] [] up vp same samb dp dq first h = absurd (omega (arith, samb))
  steps-from_along p q (x ∷ xs) [] [] [] up vp same samb dp dq first h = absurd (omega (arith, same))
  steps-from_along p q [] kb (v ∷ vs) vb up vp same samb dp dq first h = absurd (omega (arith, same))
  steps-from_along p q ka [] va (w ∷ ws) up vp same samb dp dq first h = absurd (omega (arith, samb))
  steps-from_along p q (x ∷ xs) kb [] vb up vp same samb dp dq first h = absurd (omega (arith, same))
  steps-from_along p q ka (y ∷ ys) va [] up vp same samb dp dq first h = absurd (omega (arith, samb))

  -- equal keys and equal options are read alike
  pub along-alike : (p q : W) (ka kb : List K) (va vb : List W) → AllZip (λ x y. order x y ≡ Equal) ka kb → AllZip (λ v w. E v w ≡ true) va vb →
      E p q ≡ true → (x : K) → E (along order p ka va x) (along order q kb vb x) ≡ true
  along-alike p q [] [] va vb hk hv first x = first
  along-alike p q (k ∷ ks) (l ∷ ls) [] [] hk hv first x = first
  along-alike p q (k ∷ ks) (l ∷ ls) (v ∷ vs) (w ∷ ws) hk hv first x =
      let rest = along-alike v w ks ls vs ws hk.1 hv.1 hv.0 x in
      is_le-cases (order k x)
      (λ r. ap₂ E (along-in order p k ks v vs x r) (along-in order q l ls w ws x (ap is_le (sym (o.congr k l x hk.0)) ∙ r)) ∙ rest)
      (λ r. ap₂ E (along-out order p k ks v vs x r) (along-out order q l ls w ws x (sym (o.congr k l x hk.0) ∙ r)) ∙ first)
  along-alike p q [] (l ∷ ls) va vb hk hv first x = absurd hk
  along-alike p q (k ∷ ks) [] va vb hk hv first x = absurd hk
  along-alike p q (k ∷ ks) (l ∷ ls) [] (w ∷ ws) hk hv first x = absurd hv
  along-alike p q (k ∷ ks) (l ∷ ls) (v ∷ vs) [] hk hv first x = absurd hv

module _ {K V : Type 0} (order : K → K → Ordering) (o : IsTotalOrder order) (E : V → V → Bool) (e : IsEquivalence E)
    (a b : Steps K V) (ca : IsCanonical order E a) (cb : IsCanonical order E b) where
  pub AreEqualSteps-from_same : IsSameMap order E a b → AreEqualSteps order E a b
  AreEqualSteps-from_same same =
      let differ_a = Differ-from_adjacent (option_eq E) None a.options ca.changes in
      let differ_b = Differ-from_adjacent (option_eq E) None b.options cb.changes in
      steps-from_along order o (option_eq E) (options_equiv e) None None a.keys b.keys a.options b.options
      ca.ascending cb.ascending ca.one_each cb.one_each differ_a differ_b refl
      (λ x. sym (ap₂ (option_eq E) (value_at-along order o E a x ca) (value_at-along order o E b x cb)) ∙ same x)

  pub IsSameMap-from_equal : AreEqualSteps order E a b → IsSameMap order E a b
  IsSameMap-from_equal equal x =
      ap₂ (option_eq E) (value_at-along order o E a x ca) (value_at-along order o E b x cb)
      ∙ along-alike order o (option_eq E) (options_equiv e) None None a.keys b.keys a.options b.options equal.0 equal.1 refl x

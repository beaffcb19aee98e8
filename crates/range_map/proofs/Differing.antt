-- Options each of which differs from the one before it.
use Rattle.std.proofs.Common.{◌≡◌, ℕ, ◌+◌, ◌≤◌, zero, suc, Bool, true, false, not, cond, Some, None, List, [], ◌∷◌, ◌++◌, length, take, drop, get_or, refl, sym, ◌∙◌, arith, subst, true≢false}
use Rattle.std.specs.List.{AllAdjacentBelow}
use Rattle.std.specs.Cmp.{IsEquivalence}
use Rattle.std.specs.Option.{option_to_list}

-- an item, where it is put
abbrev pub one : {X : Type 0} → Bool → X → List X
one b x = option_to_list (cond b (Some x) None)

module _ {W : Type 0} (E : W → W → Bool) where
  -- each differs from the one before it, and the first from p
  abbrev pub Differ : W → List W → Type 0
  Differ p [] = Unit {0}
  Differ p (w ∷ ws) = (E p w ≡ false) × Differ w ws

  pub Differ-from_adjacent : (p : W) (ws : List W) → AllAdjacentBelow (λ v w. E v w ≡ false) (p ∷ ws) (length ws + 1) → Differ p ws
  Differ-from_adjacent p [] h = tt
  Differ-from_adjacent p (w ∷ ws) h = (
    h 0 w (omega arith),
    Differ-from_adjacent w ws (λ k d within.
        let e : suc k + 1 ≡ suc (k + 1) = omega arith in
        subst (λ n. E (get_or (w ∷ ws) k d) (get_or (p ∷ w ∷ ws) n d) ≡ false) e (h (suc k) d (omega arith))),
  )

  pub AllAdjacent-from_differ : (p : W) (ws : List W) → Differ p ws → AllAdjacentBelow (λ v w. E v w ≡ false) (p ∷ ws) (length ws + 1)
  AllAdjacent-from_differ p [] h k d within = absurd (omega arith)
  AllAdjacent-from_differ p (w ∷ ws) h zero d within = h.0
  AllAdjacent-from_differ p (w ∷ ws) h (suc k) d within =
      let e : suc (k + 1) ≡ suc k + 1 = omega arith in
      subst (λ n. E (get_or (w ∷ ws) k d) (get_or (p ∷ w ∷ ws) n d) ≡ false) e (AllAdjacent-from_differ w ws h.1 k d (omega arith))

  -- so do those from place n on, after the one before it
  pub Differ-drop : (p d : W) (n : ℕ) (ws : List W) → n ≤ length ws → Differ p ws → Differ (get_or (p ∷ ws) n d) (drop n ws)
  Differ-drop p d zero ws within h = h
  Differ-drop p d (suc n) [] within h = absurd (omega (arith, within))
  Differ-drop p d (suc n) (w ∷ ws) within h = Differ-drop w d n ws (omega (arith, within)) h.1

  -- and the first n with others behind them
  pub Differ-take : (p d : W) (n : ℕ) (ws us : List W) → n ≤ length ws → Differ p ws → Differ (get_or (p ∷ ws) n d) us → Differ p (take n ws ++ us)
  Differ-take p d zero ws us within h k = k
  Differ-take p d (suc n) [] us within h k = absurd (omega (arith, within))
  Differ-take p d (suc n) (w ∷ ws) us within h k = (h.0, Differ-take w d n ws us (omega (arith, within)) h.1 k)

  module _ (e : IsEquivalence E) where
    pub equal-trans : (x y z : W) → E x y ≡ true → E y z ≡ true → E x z ≡ true
    equal-trans x y z h k = e.congr x y z h ∙ k

    -- only the option before them counts, not which of its equals it is
    pub Differ-alike : (p q : W) (ws : List W) → E p q ≡ true → Differ p ws → Differ q ws
    Differ-alike p q [] h d = tt
    Differ-alike p q (w ∷ ws) h d = (sym (e.congr p q w h) ∙ d.0, d.1)

    pub not-false : (b : Bool) → false ≡ not b → b ≡ true
    not-false true h = refl
    not-false false h = absurd (true≢false (sym h))

    pub not-true : (b : Bool) → true ≡ not b → b ≡ false
    not-true true h = absurd (true≢false h)
    not-true false h = refl

    -- one put only where it differs from the one before it
    pub Differ-one : (p w : W) (b : Bool) (us : List W) → b ≡ not (E p w) → Differ w us → Differ p (one b w ++ us)
    Differ-one p w true us is h = (not-true (E p w) is, h)
    Differ-one p w false us is h = Differ-alike w p us (e.symm w p ∙ not-false (E p w) is) h

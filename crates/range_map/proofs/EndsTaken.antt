-- The ranges of a list of steps, with a value or without one, as steps are taken out at its ends.
use Rattle.std.proofs.Common.{◌≡◌, true, false, None, Some, Option, List, [], ◌∷◌, ◌++◌, length, map, slice_get, option_copied, refl, sym, ap, ap₂, ◌∙◌, arith}
use Rattle.std.proofs.lemmas.List.{map-append}
use Rattle.std.specs.Option.{is_some}
use Rattle.std.specs.Borrow.{Bor}
use Rattle.range_map.specs.Entries.{range_until, first_or, entries_until, entries_of}
use Rattle.range_map.specs.Gaps.{unvalued, free_of, gaps_of}
use Rattle.range_map.specs.Listed.{steps_of}
use Rattle.range_map.specs.declared.step.Step.{Step}

-- the first key, where one is put at the end
first_or-last : {K : Type 0} (ks : List K) (k : K) (end : Option K) → first_or (ks ++ k ∷ []) end ≡ first_or ks (Some k)
first_or-last [] k end = refl
first_or-last (l ∷ ls) k end = refl

unvalued-some : {V : Type 0} (p : Option V) → is_some p ≡ true → unvalued p ≡ None
unvalued-some None h = absurd (cc)
unvalued-some (Some v) h = refl

unvalued-none : {V : Type 0} (p : Option V) → is_some p ≡ false → unvalued p ≡ Some tt
unvalued-none None h = refl
unvalued-none (Some v) h = absurd (cc)

module _ {K V : Type 0} where
  until-last_none : (ks : List K) (ws : List (Option V)) (k : K) (end : Option K) → length ws ≡ length ks →
      entries_until (ks ++ k ∷ []) (ws ++ None ∷ []) end ≡ entries_until ks ws (Some k)
  until-last_none [] [] k end same = refl
  until-last_none [] (w ∷ ws) k end same = absurd (omega (arith, same))
  until-last_none (l ∷ ls) [] k end same = absurd (omega (arith, same))
  until-last_none (l ∷ ls) (None ∷ ws) k end same = until-last_none ls ws k end (omega (arith, same))
  until-last_none (l ∷ ls) (Some v ∷ ws) k end same =
      ap₂ (λ e rest. (range_until l e, v) ∷ rest) (first_or-last ls k end) (until-last_none ls ws k end (omega (arith, same)))

  until-last_some : (ks : List K) (ws : List (Option V)) (k : K) (v : V) (end : Option K) → length ws ≡ length ks →
      entries_until (ks ++ k ∷ []) (ws ++ Some v ∷ []) end ≡ entries_until ks ws (Some k) ++ (range_until k end, v) ∷ []
  until-last_some [] [] k v end same = refl
  until-last_some [] (w ∷ ws) k v end same = absurd (omega (arith, same))
  until-last_some (l ∷ ls) [] k v end same = absurd (omega (arith, same))
  until-last_some (l ∷ ls) (None ∷ ws) k v end same = until-last_some ls ws k v end (omega (arith, same))
  until-last_some (l ∷ ls) (Some u ∷ ws) k v end same =
      ap₂ (λ e rest. (range_until l e, u) ∷ rest) (first_or-last ls k end) (until-last_some ls ws k v end (omega (arith, same)))

  keys-push : (xs : List (Step K V)) (s : Step K V) → (steps_of (xs ++ s ∷ [])).keys ≡ (steps_of xs).keys ++ s.key ∷ []
  keys-push xs s = map-append (λ (t : Step K V). t.key) xs (s ∷ [])

  options-push : (xs : List (Step K V)) (s : Step K V) (p : Option V) → s.option ≡ p → (steps_of (xs ++ s ∷ [])).options ≡ (steps_of xs).options ++ p ∷ []
  options-push xs s p e = map-append (λ (t : Step K V). t.option) xs (s ∷ []) ∙ ap (λ q. (steps_of xs).options ++ q ∷ []) e

  one_each : (xs : List (Step K V)) → length (steps_of xs).options ≡ length (steps_of xs).keys
  one_each [] = refl
  one_each (x ∷ xs) = omega (arith, one_each xs)

  -- ---- with a value

  pub entries-first_none : (xs ys : List (Step K V)) (s : Step K V) (end : Option K) → xs ≡ s ∷ ys → s.option ≡ None → entries_of xs end ≡ entries_of ys end
  entries-first_none xs ys s end is none =
      ap (λ (zs : List (Step K V)). entries_of zs end) is ∙ ap (λ p. entries_until (s.key ∷ (steps_of ys).keys) (p ∷ (steps_of ys).options) end) none

  pub entries-first_some : (xs ys : List (Step K V)) (s : Step K V) (v : V) (end : Option K) → xs ≡ s ∷ ys → s.option ≡ Some v →
      entries_of xs end ≡ (range_until s.key (first_or (steps_of ys).keys end), v) ∷ entries_of ys end
  entries-first_some xs ys s v end is some =
      ap (λ (zs : List (Step K V)). entries_of zs end) is ∙ ap (λ p. entries_until (s.key ∷ (steps_of ys).keys) (p ∷ (steps_of ys).options) end) some

  pub entries-last_none : (xs ys : List (Step K V)) (s : Step K V) (end : Option K) → xs ≡ ys ++ s ∷ [] → s.option ≡ None → entries_of xs end ≡ entries_of ys (Some s.key)
  entries-last_none xs ys s end is none =
      ap (λ (zs : List (Step K V)). entries_of zs end) is
      ∙ ap₂ (λ ks ws. entries_until ks ws end) (keys-push ys s) (options-push ys s None none)
      ∙ until-last_none (steps_of ys).keys (steps_of ys).options s.key end (one_each ys)

  pub entries-last_some : (xs ys : List (Step K V)) (s : Step K V) (v : V) (end : Option K) → xs ≡ ys ++ s ∷ [] → s.option ≡ Some v →
      entries_of xs end ≡ entries_of ys (Some s.key) ++ (range_until s.key end, v) ∷ []
  entries-last_some xs ys s v end is some =
      ap (λ (zs : List (Step K V)). entries_of zs end) is
      ∙ ap₂ (λ ks ws. entries_until ks ws end) (keys-push ys s) (options-push ys s (Some v) some)
      ∙ until-last_some (steps_of ys).keys (steps_of ys).options s.key v end (one_each ys)

-- ---- without one

module _ {K V : Type 0} where
  -- the step with the unit where it has no value
  abbrev unit_of : Step K V → Step K (Unit {0})
  unit_of s = record { key = s.key; option = unvalued s.option }

  free-units : (xs : List (Step K V)) (end : K) → free_of xs end ≡ map (λ e. e.0) (entries_of (map unit_of xs) (Some end))
  free-units xs end = ap₂ (λ ks ws. map (λ e. e.0) (entries_until ks ws (Some end))) (same_keys xs) (same_options xs)
    where
      same_keys : (xs : List (Step K V)) → (steps_of xs).keys ≡ (steps_of (map unit_of xs)).keys
      same_keys [] = refl
      same_keys (x ∷ xs) = ap (λ ks. x.key ∷ ks) (same_keys xs)

      same_options : (xs : List (Step K V)) → map unvalued (steps_of xs).options ≡ (steps_of (map unit_of xs)).options
      same_options [] = refl
      same_options (x ∷ xs) = ap (λ ws. unvalued x.option ∷ ws) (same_options xs)

  units-first : (xs ys : List (Step K V)) (s : Step K V) → xs ≡ s ∷ ys → map unit_of xs ≡ unit_of s ∷ map unit_of ys
  units-first xs ys s is = ap (map unit_of) is

  units-last : (xs ys : List (Step K V)) (s : Step K V) → xs ≡ ys ++ s ∷ [] → map unit_of xs ≡ map unit_of ys ++ unit_of s ∷ []
  units-last xs ys s is = ap (map unit_of) is ∙ map-append unit_of ys (s ∷ [])

  keys-units : (xs : List (Step K V)) → (steps_of (map unit_of xs)).keys ≡ (steps_of xs).keys
  keys-units [] = refl
  keys-units (x ∷ xs) = ap (λ ks. x.key ∷ ks) (keys-units xs)

  pub free-first_some : (xs ys : List (Step K V)) (s : Step K V) (end : K) → xs ≡ s ∷ ys → is_some s.option ≡ true → free_of xs end ≡ free_of ys end
  free-first_some xs ys s end is some =
      free-units xs end
      ∙ ap (map (λ e. e.0)) (entries-first_none (map unit_of xs) (map unit_of ys) (unit_of s) (Some end) (units-first xs ys s is) (unvalued-some s.option some))
      ∙ sym (free-units ys end)

  pub free-first_none : (xs ys : List (Step K V)) (s : Step K V) (end : K) → xs ≡ s ∷ ys → is_some s.option ≡ false →
      free_of xs end ≡ range_until s.key (first_or (steps_of ys).keys (Some end)) ∷ free_of ys end
  free-first_none xs ys s end is none =
      free-units xs end
      ∙ ap (map (λ e. e.0)) (entries-first_some (map unit_of xs) (map unit_of ys) (unit_of s) tt (Some end) (units-first xs ys s is) (unvalued-none s.option none))
      ∙ ap₂ (λ ks rest. range_until s.key (first_or ks (Some end)) ∷ rest) (keys-units ys) (sym (free-units ys end))

  free-last_some : (xs ys : List (Step K V)) (s : Step K V) (end : K) → xs ≡ ys ++ s ∷ [] → is_some s.option ≡ true → free_of xs end ≡ free_of ys s.key
  free-last_some xs ys s end is some =
      free-units xs end
      ∙ ap (map (λ e. e.0)) (entries-last_none (map unit_of xs) (map unit_of ys) (unit_of s) (Some end) (units-last xs ys s is) (unvalued-some s.option some))
      ∙ sym (free-units ys s.key)

  free-last_none : (xs ys : List (Step K V)) (s : Step K V) (end : K) → xs ≡ ys ++ s ∷ [] → is_some s.option ≡ false →
      free_of xs end ≡ free_of ys s.key ++ range_until s.key (Some end) ∷ []
  free-last_none xs ys s end is none =
      free-units xs end
      ∙ ap (map (λ e. e.0)) (entries-last_some (map unit_of xs) (map unit_of ys) (unit_of s) tt (Some end) (units-last xs ys s is) (unvalued-none s.option none))
      ∙ map-append (λ e. e.0) (entries_of (map unit_of ys) (Some s.key)) ((range_until s.key (Some end), tt) ∷ [])
      ∙ ap (λ rest. rest ++ range_until s.key (Some end) ∷ []) (sym (free-units ys s.key))

  first-key_last : (xs ys : List (Step K V)) (s : Step K V) (end : Option K) → xs ≡ ys ++ s ∷ [] → first_or (steps_of xs).keys end ≡ first_or (steps_of ys).keys (Some s.key)
  first-key_last xs ys s end is =
      ap (λ (zs : List (Step K V)). first_or (steps_of zs).keys end) is ∙ ap (λ ks. first_or ks end) (keys-push ys s) ∙ first_or-last (steps_of ys).keys s.key end

  pub gaps-last_some : (first : Option K) (xs ys : List (Step K V)) (s : Step K V) (end : K) → xs ≡ ys ++ s ∷ [] → is_some s.option ≡ true → gaps_of first xs end ≡ gaps_of first ys s.key
  gaps-last_some None xs ys s end is some = free-last_some xs ys s end is some
  gaps-last_some (Some start) xs ys s end is some =
      ap₂ (λ e rest. range_until start e ∷ rest) (first-key_last xs ys s (Some end) is) (free-last_some xs ys s end is some)

  pub gaps-last_none : (first : Option K) (xs ys : List (Step K V)) (s : Step K V) (end : K) → xs ≡ ys ++ s ∷ [] → is_some s.option ≡ false →
      gaps_of first xs end ≡ gaps_of first ys s.key ++ range_until s.key (Some end) ∷ []
  gaps-last_none None xs ys s end is none = free-last_none xs ys s end is none
  gaps-last_none (Some start) xs ys s end is none =
      ap₂ (λ e rest. range_until start e ∷ rest) (first-key_last xs ys s (Some end) is) (free-last_none xs ys s end is none)

-- the first key of the steps, or else the end
module _ {K V : Type 0} where
  pub first-key : (items : List (Step K V)) (r : Option (Bor (Step K V))) (s : Step K V) (end : Option K) → option_copied r ≡ slice_get items 0 → option_copied r ≡ Some s →
      Some s.key ≡ first_or (steps_of items).keys end
  first-key [] r s end h e = let off : Some s ≡ None = sym e ∙ h in absurd (cc)
  first-key (x ∷ xs) r s end h e = let same : Some x ≡ Some s = sym h ∙ e in ap key-of (sym same)
    where
      key-of : Option (Step K V) → Option K
      key-of None = None
      key-of (Some t) = Some t.key

  pub no-first_key : (items : List (Step K V)) (r : Option (Bor (Step K V))) (end : Option K) → option_copied r ≡ slice_get items 0 → option_copied r ≡ None →
      end ≡ first_or (steps_of items).keys end
  no-first_key [] r end h e = refl
  no-first_key (x ∷ xs) r end h e = let off : Some x ≡ None = sym h ∙ e in absurd (cc)

-- A map from ranges to values as a list of steps: keys, and the option that holds from each key on,
-- up to the next one.
--     Steps K V                   the keys, and the option from each of them on
--     value_at order m x          the option at x: its value, if it has one
--     AreAlike E p q              both are none, or both have values, which E calls equal
--     IsCanonical order E m       sorted keys, and an option for each, unlike the one before
--     IsSameMap order E a b       alike at every x
--     AreEqualSteps order E a b   equal key by key, and alike option by option
use Rattle.std.specs.Prelude.{◌≡◌, ℕ, ◌+◌, Bool, true, false, List, ◌∷◌, length, filter, get_or, Option, None, refl}
use Rattle.std.specs.List.{AllZip, AllAdjacentBelow}
use Rattle.std.specs.Option.{option_eq, is_some}
use Rattle.std.specs.Coded.{Coded, code_by, coded×, coded_list, coded_option}
use Rattle.std.specs.declared.cmp.Ordering.{Ordering}
use Rattle.std.specs.declared.cmp.Ordering.TheVariants.{Equal}
use Rattle.range_merge.specs.Boundaries.{IsAscending, count_up_to}

-- the keys, and the option that holds from each of them on, up to the next one
pub record Steps (K V : Type 0) : Type 0 where
  pub keys : List K
  pub options : List (Option V)

module _ {K V : Type 0} where
  abbrev pub coded_steps : Coded K → Coded V → Coded (Steps K V)
  coded_steps k v =
      code_by (List K × List (Option V)) (coded× (coded_list k) (coded_list (coded_option v)))
      (λ m. (m.keys, m.options)) (λ p. record { keys = p.0; options = p.1 }) (λ _. refl)

  -- in how many steps a value begins
  abbrev pub ranges_len : Steps K V → ℕ
  ranges_len m = length (filter is_some m.options)

-- both are none, or both have values, which E calls equal
abbrev pub AreAlike : {V : Type 0} → (V → V → Bool) → Option V → Option V → Type 0
AreAlike E p q = option_eq E p q ≡ true

module _ {K V : Type 0} (order : K → K → Ordering) where
  -- the option of the last key at or below x, and none if all keys are above it
  abbrev pub value_at : Steps K V → K → Option V
  value_at m x = get_or (None ∷ m.options) (count_up_to order m.keys x) None

  module _ (E : V → V → Bool) where
    -- the keys are strictly sorted, each has an option, and each option differs from the one before
    -- it; none stands before the first
    pub record IsCanonical (m : Steps K V) : Type 0 where
      pub ascending : IsAscending order m.keys
      pub one_each : length m.options ≡ length m.keys
      pub changes : AllAdjacentBelow (λ p q. option_eq E p q ≡ false) (None ∷ m.options)
          (length m.options + 1)

    -- alike at every x
    abbrev pub IsSameMap : Steps K V → Steps K V → Type 0
    IsSameMap a b = (x : K) → AreAlike E (value_at a x) (value_at b x)

    -- equal key by key, and alike option by option
    abbrev pub AreEqualSteps : Steps K V → Steps K V → Type 0
    AreEqualSteps a b =
        AllZip (λ x y. order x y ≡ Equal) a.keys b.keys × AllZip (AreAlike E) a.options b.options

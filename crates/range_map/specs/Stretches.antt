-- The longest range around a key with one option.
--     is_from_start order start x    x is at or above the start, if there is one
--     IsBetween order x z y          z is x or y, or lies between them
--     IsAlong order E m x y          all options between x and y are like that of x
--     IsStretch order E m x start end    exactly the keys up to which all options are like that of x
--     IsModified order E f x a r     r has f of the option of x up to which a has that, and elsewhere what a has
--     AreEqualEnds order p q         both are none, or both are keys, which are equal
use Rattle.std.specs.Prelude.{◌≡◌, ◌↔◌, ◌⊎◌, ◌&&◌, Bool, true, Option, Some, None}
use Rattle.std.specs.Ordering.{is_le}
use Rattle.std.specs.declared.cmp.Ordering.{Ordering}
use Rattle.std.specs.declared.cmp.Ordering.TheVariants.{Equal}
use Rattle.range_map.specs.Steps.{Steps, value_at, AreAlike}
use Rattle.range_map.specs.Changed.{is_before_end}

module _ {K : Type 0} (order : K → K → Ordering) where
  -- at or above the start, if there is one
  abbrev pub is_from_start : Option K → K → Bool
  is_from_start None x = true
  is_from_start (Some start) x = is_le (order start x)

  -- z is x or y, or lies between them
  abbrev pub IsBetween : K → K → K → Type 0
  IsBetween x z y =
      ((is_le (order x z) ≡ true) × (is_le (order z y) ≡ true))
      ⊎ ((is_le (order y z) ≡ true) × (is_le (order z x) ≡ true))

  -- both are none, or both are keys, which are equal
  abbrev pub AreEqualEnds : Option K → Option K → Type 0
  AreEqualEnds None None = Unit {0}
  AreEqualEnds None (Some y) = ⊥
  AreEqualEnds (Some x) None = ⊥
  AreEqualEnds (Some x) (Some y) = order x y ≡ Equal

  module _ {V : Type 0} (E : V → V → Bool) where
    -- the option is like that of x all the way to y
    abbrev pub IsAlong : Steps K V → K → K → Type 0
    IsAlong m x y = (z : K) → IsBetween x z y → AreAlike E (value_at order m z) (value_at order m x)

    -- y lies in the stretch around x exactly if the option is like that of x all the way to y
    abbrev pub IsStretch : Steps K V → K → Option K → Option K → Type 0
    IsStretch m x start end =
        (y : K) → ((is_from_start start y && is_before_end order end y) ≡ true) ↔ IsAlong m x y

    -- f of the option of x in the stretch around it, and elsewhere the option as it was
    pub record IsModified (f : Option V → Option V) (x : K) (a r : Steps K V) : Type 0 where
      pub inside : (y : K) → IsAlong a x y → AreAlike E (value_at order r y) (f (value_at order a x))
      pub outside : (y : K) → ¬ IsAlong a x y →
          AreAlike E (value_at order r y) (value_at order a y)

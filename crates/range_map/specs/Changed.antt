-- What a change makes of a map, and an operation of two, by the option at each element.
--     IsCombined order E f a b r         r has f of what a and b have
--     IsFree order start end a           no key of the range has a value
--     is_in_range order start end x      x is at or above the start, and below the end if there is one
--     IsSetTo order E start end p a r    r has p in the range, and elsewhere what a has
--     FitsAfter order E start end p a    some such map has no more steps than a
use Rattle.std.specs.Prelude.{◌≡◌, ◌≤◌, Bool, true, cond, ◌&&◌, length, Option, Some, None}
use Rattle.std.specs.Ordering.{is_le, is_lt}
use Rattle.std.specs.declared.cmp.Ordering.{Ordering}
use Rattle.range_map.specs.Steps.{Steps, value_at, AreAlike, IsCanonical}

module _ {K : Type 0} (order : K → K → Ordering) where
  -- below the end, if there is one
  abbrev pub is_before_end : Option K → K → Bool
  is_before_end None x = true
  is_before_end (Some end) x = is_lt (order x end)

  -- at or above the start, and below the end if there is one
  abbrev pub is_in_range : K → Option K → K → Bool
  is_in_range start end x = is_le (order start x) && is_before_end end x

  -- no key of the range has a value
  abbrev pub IsFree : {V : Type 0} → K → Option K → Steps K V → Type 0
  IsFree start end a = (x : K) → is_in_range start end x ≡ true → value_at order a x ≡ None

  module _ {V : Type 0} (E : V → V → Bool) where
    -- p in the range, and elsewhere the option as it was
    abbrev pub IsSetTo : K → Option K → Option V → Steps K V → Steps K V → Type 0
    IsSetTo start end p a r =
        (x : K) → AreAlike E (value_at order r x)
        (cond (is_in_range start end x) p (value_at order a x))

    -- there is a map that has p in the range, and elsewhere the option as it was, with no more steps
    pub record FitsAfter (start : K) (end : Option K) (p : Option V) (a : Steps K V) : Type 0 where
      pub after : Steps K V
      pub canonical : IsCanonical order E after
      pub values : IsSetTo start end p a after
      pub no_longer : length after.keys ≤ length a.keys

  -- f of what both have
  abbrev pub IsCombined : {V W U : Type 0} → (U → U → Bool) → (Option V → Option W → Option U) →
      Steps K V → Steps K W → Steps K U → Type 0
  IsCombined E f a b r =
      (x : K) → AreAlike E (value_at order r x) (f (value_at order a x) (value_at order b x))

-- What an update makes of a map.
--     IsUpdated order E start end f a r    r has f of the option in the range, elsewhere what a has
--     unit_on start end, if_some f         the map that has the unit on the range; f of an option where there is one
--     kept test p                          the option, but none where its value fails the test
--     kept_at test items n d               the step at place n, but without its value where its range with that fails the test
--     kept_steps test items                the same of each step
--     value_among order es x               the value of the first of the entries whose range has x
--     IsRetained order E test a r          r has the values of those entries of a that pass the test
use Rattle.std.specs.Prelude.{ℕ, ◌+◌, Bool, cond, List, [], ◌∷◌, map, filter, get_or, slice_get, Option, Some, None}
use Rattle.std.specs.Option.{option_to_list, is_some}
use Rattle.std.specs.declared.cmp.Ordering.{Ordering}
use Rattle.range_map.specs.Steps.{Steps, value_at, AreAlike}
use Rattle.range_collections.specs.declared.range_set_range.RangeSetRange.{RangeSetRange}
use Rattle.range_map.specs.Changed.{is_in_range}
use Rattle.range_map.specs.Entries.{range_until, first_or, entries}
use Rattle.range_map.specs.Gaps.{has}
use Rattle.range_map.specs.Listed.{steps_of}
use Rattle.range_map.specs.declared.step.Step.{Step}

-- f of the option in the range, and elsewhere the option as it was
abbrev pub IsUpdated : {K V : Type 0} → (K → K → Ordering) → (V → V → Bool) → K → Option K →
    (Option V → Option V) → Steps K V → Steps K V → Type 0
IsUpdated {K} order E start end f a r =
    (x : K) → AreAlike E (value_at order r x)
    (cond (is_in_range order start end x) (f (value_at order a x)) (value_at order a x))

-- the map that has the unit on the range alone
abbrev pub unit_on : {K : Type 0} → K → Option K → Steps K (Unit {0})
unit_on start end = record {
  keys = start ∷ option_to_list end;
  options = Some tt ∷ map (λ _. None) (option_to_list end);
}

-- f of the option where the other one is some
abbrev pub if_some : {V : Type 0} → (Option V → Option V) → Option V → Option (Unit {0}) → Option V
if_some f p q = cond (is_some q) (f p) p

-- the option, but none where its value fails the test
abbrev pub kept : {V : Type 0} → (V → Bool) → Option V → Option V
kept test None = None
kept test (Some v) = cond (test v) (Some v) None

module _ {K V : Type 0} (test : RangeSetRange K × V → Bool) where
  -- the option of a step from k up to the end, but none where its range with its value fails the test
  abbrev pub kept_until : K → Option K → Option V → Option V
  kept_until k end p = kept (λ v. test (range_until k end, v)) p

  -- the step at place n with that option
  abbrev pub kept_at : List (Step K V) → ℕ → Step K V → Step K V
  kept_at items n d = record {
    key = (get_or items n d).key;
    option = kept_until (get_or items n d).key (slice_get (steps_of items).keys (n + 1)) (get_or items n d).option;
  }

  -- each step with that option
  abbrev pub kept_steps : List (Step K V) → List (Step K V)
  kept_steps [] = []
  kept_steps (s ∷ ss) =
      record { key = s.key; option = kept_until s.key (first_or (steps_of ss).keys None) s.option } ∷ kept_steps ss

module _ {K V : Type 0} (order : K → K → Ordering) where
  -- the value of the first entry whose range has x
  abbrev pub value_among : List (RangeSetRange K × V) → K → Option V
  value_among [] x = None
  value_among (e ∷ es) x = cond (has order e.0 x) (Some e.1) (value_among es x)

  -- each key has the value of the range of a that has it, if that range with its value passes the test
  abbrev pub IsRetained : (V → V → Bool) → (RangeSetRange K × V → Bool) → Steps K V → Steps K V → Type 0
  IsRetained E test a r =
      (x : K) → AreAlike E (value_at order r x) (value_among (filter test (entries a)) x)

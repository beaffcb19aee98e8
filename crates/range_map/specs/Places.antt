-- Where a range lies among the steps of a map; contracts of private functions use these words.
--     Span, span_of lists places    places as numbers: how many steps stand before each
--     after_range options span copied    the option that holds from the end on
--     end_step items span end copied     the step that stands at the end, if one does
--     put_len span               how many steps are put
--     needs_end E end p after    whether one has to stand at the end
--     ArePlaces ..               which steps lie in the range, and whether some stand at its ends
--     Stands order xs n n2 k     k stands behind the keys before place n2, of which those from n on equal it
--     IsNext order lists ks i j n    the lowest key that is unread, and the places behind it
use Rattle.std.specs.Prelude.{◌≡◌, ℕ, ◌+◌, ◌<◌, ◌≤◌, Bool, true, false, not, cond, List, ◌∷◌, length, get_or, nat_lt, Option, Some, None}
use Rattle.std.specs.List.{AllWithin}
use Rattle.std.specs.Option.{option_eq}
use Rattle.std.specs.Ordering.{is_le}
use Rattle.std.specs.declared.cmp.Ordering.{Ordering}
use Rattle.std.specs.declared.cmp.Ordering.TheVariants.{Less, Equal, Greater}
use Rattle.range_map.specs.Combining.{IsBelowFrom}
use Rattle.range_map.specs.Steps.{Steps}
use Rattle.range_map.specs.Listed.{steps_of, steps_in}
use Rattle.range_map.specs.declared.step.Step.{Step}
use Rattle.range_map.specs.declared.places.Places.{Places}
use Rattle.range_map.specs.declared.in_place.Next.{Next}
use Rattle.range_list.specs.Lists.{place_at, IsPlaceAt}

-- how many steps stand before the first one in the range, and before the first one behind it; whether
-- steps have to stand at its start and at its end
pub record Span : Type 0 where
  pub from : ℕ
  pub to : ℕ
  pub starts : Bool
  pub ends : Bool

-- places as numbers
abbrev pub span_of : {K V : Type 0} → List (List (Step K V)) → Places → Span
span_of lists p =
    record { from = place_at lists p.from; to = place_at lists p.to; starts = p.starts; ends = p.ends }

-- the last option in the range, or if no step lies in it the copy
abbrev pub after_range : {V : Type 0} → List (Option V) → Span → Option V → Option V
after_range options span copied =
    cond (nat_lt span.from span.to) (get_or (None ∷ options) span.to None) copied

-- the step that stands at the end, if one does
abbrev pub end_step : {K V : Type 0} → List (Step K V) → Span → Option K → Option V →
    Option (Step K V)
end_step items span None copied = None
end_step items span (Some end) copied =
    Some (record { key = end; option = after_range (steps_of items).options span copied })

-- how many steps are put
abbrev pub put_len : Span → ℕ
put_len span = cond span.starts 1 0 + cond span.ends 1 0

-- whether a step has to stand at the end: the option that held there isn't p
abbrev pub needs_end : {K W : Type 0} → (W → W → Bool) → Option K → W → W → Bool
needs_end E None p after = false
needs_end E (Some end) p after = not (E after p)

module _ {K : Type 0} (order : K → K → Ordering) where
  -- at or below the end, if there is one
  abbrev pub IsUpToEnd : Option K → K → Type 0
  IsUpToEnd None y = Unit {0}
  IsUpToEnd (Some end) y = is_le (order y end) ≡ true

  -- above the end: nothing is, if there is none
  abbrev pub IsAboveEnd : Option K → K → Type 0
  IsAboveEnd None y = ⊥
  IsAboveEnd (Some end) y = order y end ≡ Greater

  -- the keys before place `from` are below the start, those from there on aren't; the keys before
  -- place `to` are at or below the end, those from there on are above it; and steps have to stand
  -- where the option changes to p and where it changes back
  pub record ArePlaces {V : Type 0} (E : V → V → Bool) (m : Steps K V) (start : K) (end : Option K)
      (p : Option V) (span : Span) : Type 0 where
    pub from_in : span.from ≤ length m.keys
    pub to_in : span.to ≤ length m.keys
    pub below : AllWithin (λ y. order y start ≡ Less) m.keys 0 span.from
    pub at_least : AllWithin (λ y. is_le (order start y) ≡ true) m.keys span.from (length m.keys)
    pub up_to : AllWithin (IsUpToEnd end) m.keys 0 span.to
    pub above : AllWithin (IsAboveEnd end) m.keys span.to (length m.keys)
    pub starts : span.starts ≡ not (option_eq E (get_or (None ∷ m.options) span.from None) p)
    pub ends : span.ends ≡ needs_end (option_eq E) end p (get_or (None ∷ m.options) span.to None)

  -- k stands behind the keys before place n2, of which those from n on are equal to it
  pub record Stands (xs : List K) (n n2 : ℕ) (k : K) : Type 0 where
    pub on : n ≤ n2
    pub within : n2 ≤ length xs
    pub past : AllWithin (λ y. is_le (order y k) ≡ true) xs 0 n2
    pub here : AllWithin (λ y. order y k ≡ Equal) xs n n2
    pub after : IsBelowFrom order xs n2 k

  -- n has the lowest of the keys from place i and from place j of the two lists on, of which it is
  -- one, and the places behind it; the first list's keys before place `below` are below the other's
  pub record IsNext {V : Type 0} (lists : List (List (Step K V))) (ks : List K) (i j : ℕ) (n : Next K) :
      Type 0 where
    pub at_place : IsPlaceAt lists n.at
    pub below_place : IsPlaceAt lists n.below
    pub ordered : place_at lists n.at ≤ place_at lists n.below
    pub left : Stands (steps_in lists).keys i (place_at lists n.at) n.key.now
    pub right : Stands ks j n.index n.key.now
    pub onward : i + j < place_at lists n.at + n.index
    pub left_below : AllWithin (IsBelowFrom order ks n.index) (steps_in lists).keys 0 (place_at lists n.below)

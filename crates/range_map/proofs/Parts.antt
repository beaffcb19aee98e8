-- Parts of a list of steps, as parts of its keys and of its options.
use Rattle.std.proofs.Common.{◌≡◌, ℕ, zero, suc, None, Option, List, [], ◌∷◌, map, take, drop, slice_get, refl, sym, ap, ap₂, ◌∙◌}
use Rattle.std.proofs.lemmas.List.{take-map}
use Rattle.std.specs.List.{drop-map}
use Rattle.range_map.specs.Entries.{first_or, entries_until, entries_of}
use Rattle.range_map.specs.Gaps.{gaps_until, gaps_of}
use Rattle.range_map.specs.Listed.{steps_of}
use Rattle.range_map.specs.declared.step.Step.{Step}

module _ {X Y : Type 0} (f : X → Y) (xs : List X) (n m : ℕ) where
  mapped-part : map f (take m (drop n xs)) ≡ take m (drop n (map f xs))
  mapped-part = sym (take-map f m (drop n xs)) ∙ ap (take m) (sym (drop-map f n xs))

-- the key at a place, as the first one from there on
pub first_or-at_place : {K : Type 0} (ks : List K) (n : ℕ) → slice_get ks n ≡ first_or (drop n ks) None
first_or-at_place [] zero = refl
first_or-at_place [] (suc n) = refl
first_or-at_place (k ∷ ks) zero = refl
first_or-at_place (k ∷ ks) (suc n) = first_or-at_place ks n

module _ {K V : Type 0} (items : List (Step K V)) (n m : ℕ) where
  pub entries_of-part : (end : Option K) → entries_of (take m (drop n items)) end ≡ entries_until (take m (drop n (steps_of items).keys)) (take m (drop n (steps_of items).options)) end
  entries_of-part end =
      ap₂ (λ ks ws. entries_until ks ws end) (mapped-part (λ (s : Step K V). s.key) items n m) (mapped-part (λ (s : Step K V). s.option) items n m)

  pub gaps_of-part : (first : Option K) (end : K) → gaps_of first (take m (drop n items)) end ≡ gaps_until first (take m (drop n (steps_of items).keys)) (take m (drop n (steps_of items).options)) end
  gaps_of-part first end =
      ap₂ (λ ks ws. gaps_until first ks ws end) (mapped-part (λ (s : Step K V). s.key) items n m) (mapped-part (λ (s : Step K V). s.option) items n m)

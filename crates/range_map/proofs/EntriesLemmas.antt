-- The ranges of a map's steps with their values, from the front and from the back.
use Rattle.std.proofs.Common.{◌≡◌, ℕ, ◌-◌, ◌≤◌, zero, suc, None, Some, Option, List, [], ◌∷◌, ◌++◌, length, take, drop, map, slice_get, MatchOption, refl, sym, ap, ap₂, ◌∙◌, arith}
use Rattle.std.proofs.lemmas.List.{take_all, length-drop}
use Rattle.std.specs.Iterator.{YieldsLastBy}
use Rattle.std.specs.List.{last_or}
use Rattle.range_collections.proofs.RangesAtEnds.{last_or-append}
use Rattle.range_map.specs.Entries.{range_until, first_or, entries_until}

module _ {K : Type 0} where
  -- the first key of two parts is that of the front, if it has one
  pub first_or-split : (n : ℕ) (ks : List K) (end : Option K) → first_or ks end ≡ first_or (take n ks) (first_or (drop n ks) end)
  first_or-split zero ks end = refl
  first_or-split (suc n) [] end = refl
  first_or-split (suc n) (k ∷ ks) end = refl

module _ {K V : Type 0} where
  -- the ranges of the steps before a place, and of those from there on
  pub entries-split : (n : ℕ) (ks : List K) (ws : List (Option V)) (end : Option K) → length ws ≡ length ks → n ≤ length ks →
      entries_until ks ws end ≡ entries_until (take n ks) (take n ws) (first_or (drop n ks) end) ++ entries_until (drop n ks) (drop n ws) end
  entries-split zero ks ws end same within = refl
  entries-split (suc n) [] ws end same within = absurd (omega (arith, within))
  entries-split (suc n) (k ∷ ks) [] end same within = absurd (omega (arith, same))
  entries-split (suc n) (k ∷ ks) (None ∷ ws) end same within = entries-split n ks ws end (omega (arith, same)) (omega (arith, within))
  entries-split (suc n) (k ∷ ks) (Some v ∷ ws) end same within =
      ap₂ (λ e rest. (range_until k e, v) ∷ rest) (first_or-split n ks end) (entries-split n ks ws end (omega (arith, same)) (omega (arith, within)))

-- all that is left from a place on
pub back_of : {X : Type 0} (xs : List X) (n : ℕ) → take (length xs - n) (drop n xs) ≡ drop n xs
back_of xs n = take_all (length xs - n) (drop n xs) (omega (arith, length-drop n xs))

-- f of what is there
abbrev given : {X Y : Type 0} → (X → Y) → Option X → Option Y
given f None = None
given f (Some x) = Some (f x)

first-map : {X Y : Type 0} (f : X → Y) (xs : List X) → slice_get (map f xs) 0 ≡ given f (slice_get xs 0)
first-map f [] = refl
first-map f (x ∷ xs) = refl

last-map : {X Y : Type 0} (f : X → Y) (o : Option X) (xs : List X) → last_or (given f o) (map f xs) ≡ given f (last_or o xs)
last-map f o [] = refl
last-map f o (x ∷ xs) = last-map f (Some x) xs

module _ {X Y : Type 0} (f : X → Y) (xs : List X) (x : X) where
  pub first-of : slice_get xs 0 ≡ Some x → slice_get (map f xs) 0 ≡ Some (f x)
  first-of h = first-map f xs ∙ ap (given f) h

  pub last-of : last_or None xs ≡ Some x → last_or None (map f xs) ≡ Some (f x)
  last-of h = last-map f None xs ∙ ap (given f) h

-- what a call from the end gave is the last
pub MatchOption-last : {X Y : Type 0} (view : X → Y) (ys from to : List Y) (r : Option X) → from ≡ ys → YieldsLastBy view (λ zs. zs) from r to →
    MatchOption r (ys ≡ []) (λ x. last_or None ys ≡ Some (view x))
MatchOption-last view ys from to None is h = sym is ∙ h.0
MatchOption-last view ys from to (Some x) is h = ap (last_or None) (sym is ∙ h) ∙ last_or-append None to (view x)

-- What follows for the keys around the place of a search that found a key, or didn't.
use Rattle.std.proofs.Common.{◌≡◌, ap, ℕ, ◌+◌, ◌<◌, true, List, length, get_or, HoldsAt, inl, inr, arith}
use Rattle.std.specs.List.{AllWithin}
use Rattle.std.specs.Cmp.{IsTotalOrder}
use Rattle.std.specs.Ordering.{is_le}
use Rattle.std.proofs.lemmas.Bool.{cases_lt}
use Rattle.std.specs.declared.cmp.Ordering.{Ordering}
use Rattle.std.specs.declared.cmp.Ordering.TheVariants.{Less, Equal, Greater}
use Rattle.range_merge.specs.Boundaries.{IsAscending}
use Rattle.range_merge.proofs.Orders.{Less-then_equal, Less-from_equal, Equal-sym, Greater-from_less, Less-from_greater}
use Rattle.range_list.specs.declared.chunk.Chunk.{Chunk}
use Rattle.range_list.specs.declared.place.Place.{Place}
use Rattle.range_list.specs.Chunks.{flat}
use Rattle.range_list.specs.Places.{place_in, keys_of}
use Rattle.range_list.proofs.Found.{length-keys}

module _ {K : Type 0} (order : K → K → Ordering) where
  pub up_to-missing : (y key : K) → order y key ≡ Less → is_le (order y key) ≡ true
  up_to-missing y key less = ap is_le less

  pub from-missing : (o : IsTotalOrder order) (y key : K) → order y key ≡ Greater → is_le (order key y) ≡ true
  from-missing o y key greater = ap is_le (Less-from_greater o y key greater)

module _ {T K M : Type 0} (f : T → K) (order : K → K → Ordering) (o : IsTotalOrder order) (xs : List (Chunk T M)) (key : K) (ascends : IsAscending order (keys_of f xs))
    (p : Place) (within : place_in xs p < length (flat xs)) (found : HoldsAt (λ y. order y key ≡ Equal) (keys_of f xs) (place_in xs p)) where
  there : place_in xs p < length (keys_of f xs)
  there = omega (arith, within, length-keys f xs)

  pub below-found : AllWithin (λ y. order y key ≡ Less) (keys_of f xs) 0 (place_in xs p)
  below-found k d low high = Less-then_equal o (get_or (keys_of f xs) k d) (get_or (keys_of f xs) (place_in xs p) d) key (ascends k (place_in xs p) d high there) (found d)

  -- the keys behind it are above the key
  behind : (k : ℕ) (d : K) → place_in xs p < k → k < length (flat xs) → order key (get_or (keys_of f xs) k d) ≡ Less
  behind k d less high =
      Less-from_equal o key (get_or (keys_of f xs) (place_in xs p) d) (get_or (keys_of f xs) k d) (Equal-sym o (get_or (keys_of f xs) (place_in xs p) d) key (found d))
      (ascends (place_in xs p) k d less (omega (arith, high, length-keys f xs)))

  pub from-found : AllWithin (λ y. is_le (order key y) ≡ true) (keys_of f xs) (place_in xs p) (length (flat xs))
  from-found k d low high =
      elim (cases_lt (place_in xs p) k) as (λ _. is_le (order key (get_or (keys_of f xs) k d)) ≡ true) [
        | inl less ↦ ap is_le (behind k d less high)
        | inr more ↦ let same : k ≡ place_in xs p = omega (arith, low, more) in
            rw same (ap is_le (Equal-sym o (get_or (keys_of f xs) (place_in xs p) d) key (found d)))
      ]

  module _ (n : ℕ) (after : n ≡ place_in xs p + 1) where
    pub up_to-found : AllWithin (λ y. is_le (order y key) ≡ true) (keys_of f xs) 0 n
    up_to-found k d low high =
        elim (cases_lt k (place_in xs p)) as (λ _. is_le (order (get_or (keys_of f xs) k d) key) ≡ true) [
          | inl less ↦ ap is_le (below-found k d low less)
          | inr more ↦ let same : k ≡ place_in xs p = omega (arith, high, after, more) in rw same (ap is_le (found d))
        ]

    pub above-found : AllWithin (λ y. order y key ≡ Greater) (keys_of f xs) n (length (flat xs))
    above-found k d low high = Greater-from_less o key (get_or (keys_of f xs) k d) (behind k d (omega (arith, low, after)) high)

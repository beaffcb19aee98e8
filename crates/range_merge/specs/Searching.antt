-- What a search knows of the items of a strictly sorted list.
use Rattle.std.specs.Prelude.{◌≡◌, ℕ, ◌+◌, ◌-◌, ◌<◌, ◌≤◌, Bool, true, false, List, length, Result, IfOk, IfErr, HoldsAt}
use Rattle.std.specs.List.{AllWithin}
use Rattle.std.specs.Ordering.{is_le}
use Rattle.std.specs.declared.cmp.Ordering.{Ordering}
use Rattle.std.specs.declared.cmp.Ordering.TheVariants.{Less, Equal, Greater}

module _ {K : Type 0} (order : K → K → Ordering) where
  -- the items before low are at or below the key, those from high on are above it, and has_equal
  -- says whether the item before low equals it
  pub record IsSearched (items : List K) (key : K) (low high : ℕ) (has_equal : Bool) : Type 0 where
    pub ordered : low ≤ high
    pub within : high ≤ length items
    pub before : AllWithin (λ y. is_le (order y key) ≡ true) items 0 low
    pub from : AllWithin (λ y. order y key ≡ Greater) items high (length items)
    pub found : has_equal ≡ true → (1 ≤ low) × HoldsAt (λ y. order y key ≡ Equal) items (low - 1)
    pub missing : has_equal ≡ false → AllWithin (λ y. order y key ≡ Less) items 0 low

  -- rest items from low on are left: those before are at or below the key, those after are above
  -- it, and has_equal says whether an item that was compared equals it
  pub record IsNarrowed (items : List K) (key : K) (low rest : ℕ) (has_equal : Bool) : Type 0 where
    pub within : low + rest ≤ length items
    pub before : AllWithin (λ y. is_le (order y key) ≡ true) items 0 low
    pub from : AllWithin (λ y. order y key ≡ Greater) items (low + rest) (length items)
    pub found : has_equal ≡ true → (i : ℕ) × (i < length items) × HoldsAt (λ y. order y key ≡ Equal) items i
    pub missing : has_equal ≡ false → AllWithin (λ y. order y key ≡ Less) items 0 low

  -- the index of the item that equals the key, or how many items are at or below it, of which none
  -- equals it if the search finds
  pub record IsAnswer (items : List K) (key : K) (finds : Bool) (result : Result ℕ ℕ) : Type 0 where
    pub found_within : IfOk result (λ i. i < length items)
    pub found : IfOk result (HoldsAt (λ y. order y key ≡ Equal) items)
    pub within : IfErr result (λ i. i ≤ length items)
    pub before : IfErr result (λ i. AllWithin (λ y. is_le (order y key) ≡ true) items 0 i)
    pub missing : finds ≡ true → IfErr result (λ i. AllWithin (λ y. order y key ≡ Less) items 0 i)
    pub from : IfErr result (λ i. AllWithin (λ y. order y key ≡ Greater) items i (length items))

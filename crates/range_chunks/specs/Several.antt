-- Several ranges set one by one in a list of boundaries; contracts of private functions use these words.
--     IsGap order inside items start end n        the range makes the list longer: place n is where it goes
--     IsSettledFrom order inside items start      the range from the start on makes the list no longer
--     AreSettled order inside items that high     none of the first ranges of a list does
--     IsPutBetween order inside items start end new   it was put there
--     AreKeptAbove order that items new           boundaries above all of the other list's stay
--     IsPutAt order that at items new             both ends of the range at an index were put at one place
--     ArePutIn order that before indices items    so were those at some indices, the first index last
use Rattle.std.specs.Prelude.{◌≡◌, ◌⊎◌, ℕ, ◌+◌, ◌*◌, ◌≤◌, ◌<◌, Bool, true, not, All, Contains, Some, List, [], ◌∷◌, length, get_or}
use Rattle.std.specs.List.{AllWithin}
use Rattle.std.specs.Ordering.{is_le}
use Rattle.std.specs.declared.cmp.Ordering.{Ordering}
use Rattle.std.specs.declared.cmp.Ordering.TheVariants.{Less}
use Rattle.range_merge.specs.Boundaries.{IsAscending, is_odd, member}
use Rattle.range_merge.specs.Connective.{Means}
use Rattle.range_collections.specs.Splicing.{IsSettled, spliced}

module _ {K : Type 0} (order : K → K → Ordering) (inside : Bool) where
  -- all items before place n are below the start, all from there on are above the end, and what lies
  -- between is no member, or is one where `inside` is false
  pub record IsGap (items : List K) (start end : K) (n : ℕ) : Type 0 where
    pub within : n ≤ length items
    pub below : AllWithin (λ y. order y start ≡ Less) items 0 n
    pub above : AllWithin (λ y. order end y ≡ Less) items n (length items)
    pub parity : is_odd n ≡ not inside

  -- a boundary is the start or lies above it; or the start is a member already, or is none where
  -- `inside` is false
  abbrev pub IsSettledFrom : List K → K → Type 0
  IsSettledFrom items start =
      ((y : K) × Contains items y × (is_le (order start y) ≡ true)) ⊎ (member order items start ≡ inside)

  -- that is so of the ranges before an index
  abbrev pub AreSettled : List K → List K → ℕ → Type 0
  AreSettled items that high =
      (n : ℕ) (d : K) → n < high → IsSettled order inside items (get_or that (2 * n) d) (get_or that (2 * n + 1) d)

  -- both ends of a range were put at one place of the items, which makes them longer
  pub record IsPutBetween (items : List K) (start end : K) (new : List K) : Type 0 where
    pub place : ℕ
    pub gap : IsGap items start end place
    pub put : new ≡ spliced items place place (Some start) (Some end)

module _ {K : Type 0} (order : K → K → Ordering) (that : List K) where
  -- boundaries above all of the other list's stay
  abbrev pub AreKeptAbove : List K → List K → Type 0
  AreKeptAbove items new =
      (y : K) → Contains items y → All (λ z. order z y ≡ Less) that → Contains new y

  -- both ends of the range at an index were put at one place of the items
  pub record IsPutAt (at : ℕ) (items new : List K) : Type 0 where
    pub place : ℕ
    pub within : place ≤ length items
    pub within_that : at + 1 < length that
    pub sorted : IsAscending order items
    pub put : (d : K) → new ≡
        spliced items place place (Some (get_or that at d)) (Some (get_or that (at + 1) d))

  -- so were those at the indices, the first index last
  abbrev pub ArePutIn : List K → List ℕ → List K → Type 0
  ArePutIn before [] items = items ≡ before
  ArePutIn before (at ∷ earlier) items =
      (old : List K) × IsPutAt at old items × ArePutIn before earlier old

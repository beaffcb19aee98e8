-- Where the items below a key end, in a list that begins with one.
use Rattle.std.specs.Prelude.{◌≡◌, ℕ, ◌-◌, ◌<◌, ◌≤◌, List, Option, Some, None, length, HoldsAt}
use Rattle.std.specs.declared.cmp.Ordering.{Ordering}
use Rattle.std.specs.declared.cmp.Ordering.TheVariants.{Less}

module _ {K : Type 0} (order : K → K → Ordering) where
  -- the item before low is below the key, and the item at high, if there is one, is not
  pub record IsBracket (items : List K) (key : K) (low high : ℕ) : Type 0 where
    pub some : 1 ≤ low
    pub ordered : low ≤ high
    pub within : high ≤ length items
    pub last : HoldsAt (λ y. order y key ≡ Less) items (low - 1)
    pub next : high < length items → HoldsAt (λ y. order y key ≡ Less → ⊥) items high

  -- how the item at a place stands to the key; none says that the list ends there
  abbrev pub StandsAt : List K → K → ℕ → Option Ordering → Type 0
  StandsAt items key i None = i ≡ length items
  StandsAt items key i (Some how) = (i < length items) × HoldsAt (λ y. order y key ≡ how) items i

-- Copies of items at the end of a list.
use Rattle.std.specs.Prelude.{◌≡◌, ℕ, ◌≤◌, Bool, true, false, List, [], ◌++◌, length, take, drop}
use Rattle.std.specs.List.{AllZip}
use Rattle.range_merge.specs.Changes.{Taken, from_left, from_right, taken_item, taken_items}

module _ {K : Type 0} where
  -- the items, if they are taken
  abbrev pub items_if : Bool → List K → List K
  items_if true items = items
  items_if false items = []

  -- new is old, and after it a copy alike to each of the items
  pub record IsAppended (alike : K → K → Type 0) (items old new : List K) : Type 0 where
    pub copies : List K
    pub alike_to : AllZip alike items copies
    pub appended : new ≡ old ++ copies

  -- the items are a copy alike to each that was taken
  abbrev pub AreCopies : (K → K → Type 0) → List (Taken K) → List K → Type 0
  AreCopies alike ts items = AllZip (λ t x. alike (taken_item t) x) ts items

  -- the first `at_first` items are those that were taken first themselves, and after them stands a
  -- copy alike to each of the others
  pub record AreKeptThenCopies (alike : K → K → Type 0) (at_first : ℕ) (ts : List (Taken K))
      (items : List K) : Type 0 where
    pub within : at_first ≤ length ts
    pub copies : List K
    pub copied : AreCopies alike (drop at_first ts) copies
    pub appended : items ≡ taken_items (take at_first ts) ++ copies

  -- y is the left's own item, or a copy alike to the right's
  abbrev pub IsOwnOrCopy : (K → K → Type 0) → Taken K → K → Type 0
  IsOwnOrCopy alike (from_left x) y = y ≡ x
  IsOwnOrCopy alike (from_right x) y = alike x y

  -- the items that were taken, item by item: the left's own, and copies alike to the right's
  abbrev pub AreOwnOrCopies : (K → K → Type 0) → List (Taken K) → List K → Type 0
  AreOwnOrCopies alike ts items = AllZip (IsOwnOrCopy alike) ts items

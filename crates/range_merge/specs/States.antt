-- What is seen of the states of a merge.
use Rattle.smallvec.specs.SmallVec.{SmallVec}
use Rattle.std.specs.Prelude.{ℕ, ◌+◌, ◌≤◌, Bool, true, false, List, [], ◌∷◌, length, All}

-- a merge over two slices: the unread items of each side, whether the side is on, what its output
-- holds of what was taken, and a number that no advance changes: how many items that began with, or
-- which slice it fills
pub record Merging (K : Type 0) (Output : Type 0) : Type 0 where
  pub left : List K
  pub right : List K
  pub left_on : Bool
  pub right_on : Bool
  pub taken : Output
  pub fixed : ℕ

-- the list has room for what is unread, and no copy of it fails
abbrev pub HasRoomForAll : {K : Type 0} → (K → Type 0) → Merging K (SmallVec K) → Type 0
HasRoomForAll is_infallible s =
    (length s.taken.items + (length s.left + length s.right) ≤ s.taken.capacity) × All is_infallible s.left × All is_infallible s.right

-- a builder that works in place: the items that are kept, those that are still unread, how many may
-- still be put, and how many have room
pub record Building (K : Type 0) : Type 0 where
  pub kept : List K
  pub unread : List K
  pub puts_left : ℕ
  pub room : ℕ

-- a merge in place: the unread items of each side, whether the side is on, the items that were kept,
-- and how many have room
pub record MergingInPlace (K : Type 0) : Type 0 where
  pub left : List K
  pub right : List K
  pub left_on : Bool
  pub right_on : Bool
  pub kept : List K
  pub room : ℕ

-- whether there is an item
abbrev pub any_item : {T : Type 0} → List T → Bool
any_item [] = false
any_item (t ∷ ts) = true

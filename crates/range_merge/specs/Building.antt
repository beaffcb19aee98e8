-- How a builder that works in place lays out its items: the kept ones first, then a hole of stale
-- ones, then the unread ones.
use Rattle.std.specs.Prelude.{ℕ, ◌+◌, ◌≤◌, List, length}

-- the hole lies in the list, after what is kept, and there is room for what is kept, what may still
-- be put and what is unread
pub record IsSound {K : Type 0} (kept start puts : ℕ) (list : List K) (room : ℕ) : Type 0 where
  pub ordered : kept ≤ start
  pub within : start ≤ length list
  pub enough : kept + puts + length list ≤ room + start

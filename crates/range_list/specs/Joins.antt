-- Neighbours that are to be joined; contracts of private functions use these words.
--     HaveFew full chunks i    of chunk i and the next one, one is small, and both have no more items than a full one
--     CanJoin full chunks i    and the list of one of them has room for the other's items
use Rattle.std.specs.Prelude.{ℕ, ◌+◌, ◌/◌, ◌≤◌, ◌<◌, ◌⊎◌, List, length, get_or, vec_len, vec_capacity}
use Rattle.range_list.specs.declared.chunk.Chunk.{Chunk}
use Rattle.range_list.specs.Chunks.{items_of}

module _ {T M : Type 0} where
  -- the list of a chunk has room for the items of another
  abbrev pub HasRoom : Chunk T M → Chunk T M → Type 0
  HasRoom chunk other = vec_len chunk.rest + length (items_of other) ≤ vec_capacity chunk.rest

  -- there is a chunk behind chunk i; one of both is less than a quarter of a full one, and both
  -- together are no more than that
  pub record HaveFew (full : ℕ) (chunks : List (Chunk T M)) (i : ℕ) : Type 0 where
    pub next : i + 1 < length chunks
    pub small : (d : Chunk T M) → (length (items_of (get_or chunks i d)) < full / 4) ⊎ (length (items_of (get_or chunks (i + 1) d)) < full / 4)
    pub few : (d : Chunk T M) → length (items_of (get_or chunks i d)) + length (items_of (get_or chunks (i + 1) d)) ≤ full

  -- and the list of one of them has room for the other's items
  pub record CanJoin (full : ℕ) (chunks : List (Chunk T M)) (i : ℕ) : Type 0 where
    pub few : HaveFew full chunks i
    pub room : (d : Chunk T M) → HasRoom (get_or chunks i d) (get_or chunks (i + 1) d) ⊎ HasRoom (get_or chunks (i + 1) d) (get_or chunks i d)

-- A list of items in chunks.
--     items_of chunk          the items of a chunk: its first one, and the rest
--     flat chunks             all items, one after another
--     start_of chunks k       how many items stand before chunk k
--     AreChunks full of chunks  no chunk has more than a full one, and each has the mark of its start
use Rattle.std.specs.Prelude.{◌≡◌, ℕ, ◌+◌, ◌<◌, List, [], ◌∷◌, length, take, All}
use Rattle.std.specs.List.{flat_map}
use Rattle.range_list.specs.declared.chunk.Chunk.{Chunk}

module _ {T M : Type 0} where
  -- the items of a chunk: its first one, and the rest
  abbrev pub items_of : Chunk T M → List T
  items_of c = c.first ∷ c.rest.items

  -- all items, one after another
  abbrev pub flat : List (Chunk T M) → List T
  flat chunks = flat_map (λ c. c.first ∷ c.rest.items) chunks

  -- how many items stand before chunk k
  abbrev pub start_of : List (Chunk T M) → ℕ → ℕ
  start_of chunks k = length (flat (take k chunks))

  -- no chunk has more items than a full one
  abbrev pub AreShort : ℕ → List (Chunk T M) → Type 0
  AreShort full chunks = All (λ c. length c.rest.items < full) chunks

  module _ (of : ℕ → M) where
    -- each chunk has the mark of the number of items before it, where n stand before the first
    unfoldable pub KnowMarks : ℕ → List (Chunk T M) → Type 0
    KnowMarks n [] = Unit {0}
    KnowMarks n (c ∷ cs) = (c.mark ≡ of n) × KnowMarks (n + length (items_of c)) cs

  -- no chunk has more items than a full one, and each has the mark of its start
  pub record AreChunks (full : ℕ) (of : ℕ → M) (chunks : List (Chunk T M)) : Type 0 where
    pub short : AreShort full chunks
    pub marks : KnowMarks of 0 chunks

-- Places in a list of items in chunks; contracts of private functions use these words.
--     place_in chunks p       how many items stand before the place
--     IsPlace chunks p        the chunk is there, and the index is one of it or its end
--     IsItem chunks p         the chunk has a item at the index
--     keys_of key_of chunks   the keys of all items
--     first_keys key_of chunks  those of the chunks' first items
--     HasPlacesOf old new     every place of the old chunks is one of the new ones
--     IsExchanged old new a b  the items at two places are exchanged
use Rattle.std.specs.Prelude.{◌≡◌, ℕ, ◌+◌, ◌≤◌, ◌<◌, List, length, get_or, set, map}
use Rattle.range_list.specs.declared.chunk.Chunk.{Chunk}
use Rattle.range_list.specs.declared.place.Place.{Place}
use Rattle.range_list.specs.Chunks.{items_of, flat, start_of}

module _ {T M : Type 0} where
  -- how many items stand before the place
  abbrev pub place_in : List (Chunk T M) → Place → ℕ
  place_in chunks p = start_of chunks p.chunk + p.index

  -- the chunk is there, and the index is one of it or its end
  pub record IsPlace (chunks : List (Chunk T M)) (p : Place) : Type 0 where
    pub chunk : p.chunk < length chunks
    pub index : (d : Chunk T M) → p.index ≤ length (items_of (get_or chunks p.chunk d))

  -- the chunk has a item at the index
  abbrev pub IsItem : List (Chunk T M) → Place → Type 0
  IsItem chunks p = (d : Chunk T M) → p.index < length (items_of (get_or chunks p.chunk d))

  -- every place of the old chunks is one of the new ones, and as many items stand before it
  abbrev pub HasPlacesOf : List (Chunk T M) → List (Chunk T M) → Type 0
  HasPlacesOf old new = (p : Place) → IsPlace old p → IsPlace new p × (place_in new p ≡ place_in old p)

  -- the items at two places of different chunks are exchanged, and nothing else changes
  pub record IsExchanged (old new : List (Chunk T M)) (a b : Place) : Type 0 where
    pub low : Chunk T M
    pub high : Chunk T M
    pub new_is : new ≡ set (set old a.chunk low) b.chunk high
    pub low_items : (d : T) (c e : Chunk T M) → items_of low ≡ set (items_of (get_or old a.chunk c)) a.index (get_or (items_of (get_or old b.chunk e)) b.index d)
    pub high_items : (d : T) (c e : Chunk T M) → items_of high ≡ set (items_of (get_or old b.chunk e)) b.index (get_or (items_of (get_or old a.chunk c)) a.index d)
    pub low_mark : (c : Chunk T M) → low.mark ≡ (get_or old a.chunk c).mark
    pub high_mark : (c : Chunk T M) → high.mark ≡ (get_or old b.chunk c).mark

module _ {T K M : Type 0} (key_of : T → K) where
  -- the keys of all items
  abbrev pub keys_of : List (Chunk T M) → List K
  keys_of chunks = map key_of (flat chunks)

  -- the keys of the chunks' first items
  abbrev pub first_keys : List (Chunk T M) → List K
  first_keys chunks = map (λ c. key_of c.first) chunks

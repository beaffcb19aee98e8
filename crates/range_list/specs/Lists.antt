-- A list in chunks as it is read from outside: the list of its chunks' items.
--     joined lists            all items, one after another
--     start_in lists k        how many items stand before chunk k
--     place_at lists p        how many items stand before the place
--     IsPlaceAt lists p       the chunk is there, and the index is one of it or its end; the front is always one
--     HasPlacesOf old new     every place of the old list is one of the new one
use Rattle.std.specs.Prelude.{◌≡◌, ℕ, ◌+◌, ◌≤◌, ◌<◌, List, [], length, take, map, get_or}
use Rattle.std.specs.List.{flat_map}
use Rattle.range_list.specs.declared.chunk.Chunk.{Chunk}
use Rattle.range_list.specs.declared.place.Place.{Place}
use Rattle.range_list.specs.Chunks.{items_of}

module _ {T : Type 0} where
  -- all items, one after another
  abbrev pub joined : List (List T) → List T
  joined lists = flat_map (λ items. items) lists

  -- how many items stand before chunk k
  abbrev pub start_in : List (List T) → ℕ → ℕ
  start_in lists k = length (joined (take k lists))

  -- how many items stand before the place
  abbrev pub place_at : List (List T) → Place → ℕ
  place_at lists p = start_in lists p.chunk + p.index

  -- the chunk is there, and the index is one of it or its end; the front is always a place
  pub record IsPlaceAt (lists : List (List T)) (p : Place) : Type 0 where
    pub chunk : 0 < p.chunk → p.chunk < length lists
    pub index : p.index ≤ length (get_or lists p.chunk [])

module _ {T : Type 0} where
  -- every place of the old list is one of the new one, and as many items stand before it
  abbrev pub HasPlacesOf : List (List T) → List (List T) → Type 0
  HasPlacesOf old new = (p : Place) → IsPlaceAt old p → IsPlaceAt new p × (place_at new p ≡ place_at old p)

-- the list of the chunks' items
abbrev pub lists_of : {T M : Type 0} → List (Chunk T M) → List (List T)
lists_of chunks = map items_of chunks

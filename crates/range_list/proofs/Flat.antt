-- A list in chunks, taken apart at a chunk or at a place.
use Rattle.std.proofs.Common.{◌≡◌, sym, ap, ◌∙◌, ℕ, zero, suc, ◌+◌, ◌≤◌, ◌<◌, List, [], ◌∷◌, ◌++◌, length, take, drop, set, get_or, arith}
use Rattle.std.proofs.lemmas.List.{append-nil, length-append, take-append-le, drop-append-le, set_split, get_or-append-add, get_or_append_left}
use Rattle.std.proofs.lemmas.List.Concat.{flat_map-append}
use Rattle.range_list.specs.declared.chunk.Chunk.{Chunk}
use Rattle.range_list.specs.Chunks.{items_of, flat, start_of}

module _ {T : Type 0} where
  pub take-add : (p q : List T) (j : ℕ) → take (length p + j) (p ++ q) ≡ p ++ take j q
  take-add [] q j = let e : 0 + j ≡ j = omega arith in ap (λ n. take n q) e
  take-add (x ∷ p) q j =
      let e : length (x ∷ p) + j ≡ suc (length p + j) = omega arith in
      ap (λ n. take n (x ∷ (p ++ q))) e ∙ ap (λ ys. x ∷ ys) (take-add p q j)

  pub drop-add : (p q : List T) (j : ℕ) → drop (length p + j) (p ++ q) ≡ drop j q
  drop-add [] q j = let e : 0 + j ≡ j = omega arith in ap (λ n. drop n q) e
  drop-add (x ∷ p) q j =
      let e : length (x ∷ p) + j ≡ suc (length p + j) = omega arith in
      ap (λ n. drop n (x ∷ (p ++ q))) e ∙ drop-add p q j

module _ {T M : Type 0} where
  pub flat-append : (xs ys : List (Chunk T M)) → flat (xs ++ ys) ≡ flat xs ++ flat ys
  flat-append xs ys = flat_map-append (λ (c : Chunk T M). c.first ∷ c.rest.items) xs ys

  -- the chunks around chunk i
  pub parts-at : (xs : List (Chunk T M)) (i : ℕ) (x : Chunk T M) → i < length xs → x ≡ get_or xs i x → xs ≡ take i xs ++ (x ∷ drop (suc i) xs)
  parts-at [] i x within read = absurd (omega arith)
  parts-at (y ∷ ys) zero x within read = ap (λ z. z ∷ ys) (sym read)
  parts-at (y ∷ ys) (suc i) x within read = ap (λ zs. y ∷ zs) (parts-at ys i x (omega arith) read)

  -- the boundaries around those of chunk i
  pub flat-at : (xs : List (Chunk T M)) (i : ℕ) (x : Chunk T M) → i < length xs → x ≡ get_or xs i x →
      flat xs ≡ flat (take i xs) ++ (items_of x ++ flat (drop (suc i) xs))
  flat-at xs i x within read = ap flat (parts-at xs i x within read) ∙ flat-append (take i xs) (x ∷ drop (suc i) xs)

  -- chunk i replaced
  pub flat-set : (xs : List (Chunk T M)) (i : ℕ) (x : Chunk T M) → i < length xs →
      flat (set xs i x) ≡ flat (take i xs) ++ (items_of x ++ flat (drop (suc i) xs))
  flat-set xs i x within = ap flat (set_split xs i x within) ∙ flat-append (take i xs) (x ∷ drop (suc i) xs)

  -- the boundaries before a place, and those after it
  pub take-place : (xs : List (Chunk T M)) (i j : ℕ) (x : Chunk T M) → i < length xs → x ≡ get_or xs i x → j ≤ length (items_of x) →
      take (start_of xs i + j) (flat xs) ≡ flat (take i xs) ++ take j (items_of x)
  take-place xs i j x within read fits =
      ap (λ zs. take (start_of xs i + j) zs) (flat-at xs i x within read)
      ∙ take-add (flat (take i xs)) (items_of x ++ flat (drop (suc i) xs)) j
      ∙ ap (λ zs. flat (take i xs) ++ zs) (take-append-le j (items_of x) (flat (drop (suc i) xs)) fits)

  pub drop-place : (xs : List (Chunk T M)) (i j : ℕ) (x : Chunk T M) → i < length xs → x ≡ get_or xs i x → j ≤ length (items_of x) →
      drop (start_of xs i + j) (flat xs) ≡ drop j (items_of x) ++ flat (drop (suc i) xs)
  drop-place xs i j x within read fits =
      ap (λ zs. drop (start_of xs i + j) zs) (flat-at xs i x within read)
      ∙ drop-add (flat (take i xs)) (items_of x ++ flat (drop (suc i) xs)) j
      ∙ drop-append-le j (items_of x) (flat (drop (suc i) xs)) fits

  -- the list has the chunk and what stands before it
  pub start-within : (xs : List (Chunk T M)) (i : ℕ) (x : Chunk T M) → i < length xs → x ≡ get_or xs i x → start_of xs i + length (items_of x) ≤ length (flat xs)
  start-within xs i x within read =
      omega (
        arith,
        ap length (flat-at xs i x within read),
        length-append (flat (take i xs)) (items_of x ++ flat (drop (suc i) xs)),
        length-append (items_of x) (flat (drop (suc i) xs)),
      )

  -- where the next chunk starts
  pub start-next : (xs : List (Chunk T M)) (i : ℕ) (x : Chunk T M) → i < length xs → x ≡ get_or xs i x → start_of xs (suc i) ≡ start_of xs i + length (items_of x)
  start-next [] i x within read = absurd (omega arith)
  start-next (y ∷ ys) zero x within read = omega (arith, ap length (append-nil (items_of y)), ap (λ (c : Chunk T M). length (items_of c)) (sym read))
  start-next (y ∷ ys) (suc i) x within read =
      omega (arith, start-next ys i x (omega arith) read, length-append (items_of y) (flat (take (suc i) ys)), length-append (items_of y) (flat (take i ys)))

  pub start-mono : (xs : List (Chunk T M)) (j k : ℕ) → j ≤ k → start_of xs j ≤ start_of xs k
  start-mono xs zero k le = omega arith
  start-mono [] (suc j) (suc k) le = omega arith
  start-mono [] (suc j) zero le = absurd (omega arith)
  start-mono (z ∷ zs) (suc j) zero le = absurd (omega arith)
  start-mono (z ∷ zs) (suc j) (suc k) le =
      omega (arith, length-append (items_of z) (flat (take j zs)), length-append (items_of z) (flat (take k zs)), start-mono zs j k (omega arith))

  -- a boundary of a chunk, in the list
  pub item-at : (xs : List (Chunk T M)) (i k : ℕ) (x : Chunk T M) (d : T) → i < length xs → x ≡ get_or xs i x → k < length (items_of x) →
      get_or (flat xs) (start_of xs i + k) d ≡ get_or (items_of x) k d
  item-at xs i k x d within read fits =
      ap (λ zs. get_or zs (start_of xs i + k) d) (flat-at xs i x within read)
      ∙ get_or-append-add (flat (take i xs)) (items_of x ++ flat (drop (suc i) xs)) k d
      ∙ get_or_append_left (items_of x) (flat (drop (suc i) xs)) d k fits

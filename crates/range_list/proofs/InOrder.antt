-- Places in order, and where a boundary replaced at one of them leaves the others.
use Rattle.std.proofs.Common.{◌≡◌, sym, ap, ◌∙◌, refl, subst, ℕ, zero, suc, ◌+◌, ◌≤◌, ◌<◌, List, [], ◌∷◌, ◌++◌, length, take, drop, set, get_or, arith}
use Rattle.std.specs.List.{remove_range}
use Rattle.std.proofs.lemmas.List.{length-append, length-set, set-append_left, take-append-drop, set_split}
use Rattle.range_list.specs.declared.chunk.Chunk.{Chunk}
use Rattle.range_list.specs.declared.place.Place.{Place}
use Rattle.range_list.specs.Chunks.{items_of, flat, start_of}
use Rattle.range_list.specs.Places.{place_in, IsPlace, IsItem, HasPlacesOf}
use Rattle.range_list.proofs.Flat.{flat-at, flat-set, start-within, start-next, start-mono, item-at}
use Rattle.range_list.proofs.Found.{read-again}

module _ {T : Type 0} where
  pub set-add : (p q : List T) (j : ℕ) (v : T) → set (p ++ q) (length p + j) v ≡ p ++ set q j v
  set-add [] q j v = let e : 0 + j ≡ j = omega arith in ap (λ n. set q n v) e
  set-add (x ∷ p) q j v =
      let e : length (x ∷ p) + j ≡ suc (length p + j) = omega arith in
      ap (λ n. set (x ∷ (p ++ q)) n v) e ∙ ap (λ ys. x ∷ ys) (set-add p q j v)

  -- a boundary put in the place of another, as a splice
  pub put-one : (xs ys : List T) (n m : ℕ) (v : T) → ys ≡ set xs m v → m ≡ n → n + 1 ≤ length xs → ys ≡ take n xs ++ (v ∷ drop (n + 1) xs)
  put-one xs ys n m v e same room =
      let one : suc n ≡ n + 1 = omega arith in
      e ∙ ap (λ k. set xs k v) same ∙ set_split xs n v (omega arith) ∙ ap (λ k. take n xs ++ (v ∷ drop k xs)) one

module _ {T M : Type 0} where
  pub index-at : (xs : List (Chunk T M)) (p : Place) (x : Chunk T M) → IsPlace xs p → x ≡ get_or xs p.chunk x → p.index ≤ length (items_of x)
  index-at xs p x here read = subst (λ (y : Chunk T M). p.index ≤ length (items_of y)) (sym read) (here.index x)

  pub item-read : (xs : List (Chunk T M)) (p : Place) (x : Chunk T M) → IsItem xs p → x ≡ get_or xs p.chunk x → p.index < length (items_of x)
  item-read xs p x here read = subst (λ (y : Chunk T M). p.index < length (items_of y)) (sym read) (here x)

  -- a place is no further than the list's end
  pub place-within : (xs : List (Chunk T M)) (p : Place) → IsPlace xs p → place_in xs p ≤ length (flat xs)
  place-within [] p here = absurd (omega (arith, here.chunk))
  place-within (y ∷ ys) p here =
      let read = read-again (y ∷ ys) p.chunk y here.chunk in
      omega (arith, start-within (y ∷ ys) p.chunk (get_or (y ∷ ys) p.chunk y) here.chunk read, here.index y)

  pub item-within : (xs : List (Chunk T M)) (p : Place) → IsPlace xs p → IsItem xs p → place_in xs p < length (flat xs)
  item-within [] p here item = absurd (omega (arith, here.chunk))
  item-within (y ∷ ys) p here item =
      let read = read-again (y ∷ ys) p.chunk y here.chunk in
      omega (arith, start-within (y ∷ ys) p.chunk (get_or (y ∷ ys) p.chunk y) here.chunk read, item y)

  -- a place in an earlier chunk is no later
  pub earlier : (xs : List (Chunk T M)) (p q : Place) → IsPlace xs q → q.chunk < p.chunk → place_in xs q ≤ place_in xs p
  earlier [] p q here less = absurd (omega (arith, here.chunk))
  earlier (y ∷ ys) p q here less =
      let read = read-again (y ∷ ys) q.chunk y here.chunk in
      omega (
        arith,
        here.index y,
        start-next (y ∷ ys) q.chunk (get_or (y ∷ ys) q.chunk y) here.chunk read,
        start-mono (y ∷ ys) (suc q.chunk) p.chunk (omega (arith, less)),
      )

  -- a place with a boundary behind it in its chunk is before each place of a later chunk
  pub before-later : (xs : List (Chunk T M)) (p q : Place) (x : Chunk T M) → IsPlace xs p → x ≡ get_or xs p.chunk x → p.index < length (items_of x) → p.chunk < q.chunk → place_in xs p < place_in xs q
  before-later xs p q x here read fits less =
      omega (arith, start-next xs p.chunk x here.chunk read, start-mono xs (suc p.chunk) q.chunk (omega arith))

  -- the end of a chunk is the next one's start
  pub at-end : (xs : List (Chunk T M)) (p : Place) (x : Chunk T M) → IsPlace xs p → x ≡ get_or xs p.chunk x → length (items_of x) ≤ p.index → place_in xs p ≡ start_of xs (p.chunk + 1)
  at-end xs p x here read end =
      let one : p.chunk + 1 ≡ suc p.chunk = omega arith in
      omega (arith, start-next xs p.chunk x here.chunk read, index-at xs p x here read, ap (λ n. start_of xs n) one)

  -- a boundary at a place
  pub item-here : (xs : List (Chunk T M)) (p : Place) (x : Chunk T M) (v : T) → IsPlace xs p → x ≡ get_or xs p.chunk x → p.index < length (items_of x) →
      ((d : T) → v ≡ get_or (items_of x) p.index d) → (place_in xs p < length (flat xs)) × ((d : T) → v ≡ get_or (flat xs) (place_in xs p) d)
  item-here xs p x v here read fits first =
      (omega (arith, start-within xs p.chunk x here.chunk read, fits), λ d. first d ∙ sym (item-at xs p.chunk p.index x d here.chunk read fits))

  -- places in the wrong order of chunks are one place, with nothing between
  pub removed-none : (xs : List (Chunk T M)) (p q : Place) → IsPlace xs q → q.chunk < p.chunk → place_in xs p ≤ place_in xs q → flat xs ≡ remove_range (flat xs) (place_in xs p) (place_in xs q)
  removed-none xs p q here less le =
      let same : place_in xs p ≡ place_in xs q = omega (arith, earlier xs p q here less) in
      sym (take-append-drop (place_in xs p) (flat xs)) ∙ ap (λ n. take (place_in xs p) (flat xs) ++ drop n (flat xs)) same

  -- ---- a boundary replaced

  -- a boundary replaced in its chunk is replaced in the list
  pub overwritten : (xs : List (Chunk T M)) (p : Place) (x y : Chunk T M) (v : T) → IsPlace xs p → x ≡ get_or xs p.chunk x → p.index < length (items_of x) →
      items_of y ≡ set (items_of x) p.index v → flat (set xs p.chunk y) ≡ set (flat xs) (place_in xs p) v
  overwritten xs p x y v here read fits e =
      let rest : List T = flat (drop (suc p.chunk) xs) in
      flat-set xs p.chunk y here.chunk
      ∙ ap (λ zs. flat (take p.chunk xs) ++ (zs ++ rest)) e
      ∙ ap (λ zs. flat (take p.chunk xs) ++ zs) (sym (set-append_left (items_of x) rest p.index v fits))
      ∙ sym (set-add (flat (take p.chunk xs)) (items_of x ++ rest) p.index v)
      ∙ ap (λ zs. set zs (place_in xs p) v) (sym (flat-at xs p.chunk x here.chunk read))

  size-set : (xs : List (Chunk T M)) (i k : ℕ) (x y d : Chunk T M) → i < length xs → x ≡ get_or xs i x → length (items_of y) ≡ length (items_of x) →
      length (items_of (get_or (set xs i y) k d)) ≡ length (items_of (get_or xs k d))
  size-set [] i k x y d within read n = refl
  size-set (z ∷ zs) zero zero x y d within read n = n ∙ ap (λ (c : Chunk T M). length (items_of c)) read
  size-set (z ∷ zs) zero (suc k) x y d within read n = refl
  size-set (z ∷ zs) (suc i) zero x y d within read n = refl
  size-set (z ∷ zs) (suc i) (suc k) x y d within read n = size-set zs i k x y d (omega arith) read n

  start-set : (xs : List (Chunk T M)) (i k : ℕ) (x y : Chunk T M) → i < length xs → x ≡ get_or xs i x → length (items_of y) ≡ length (items_of x) →
      start_of (set xs i y) k ≡ start_of xs k
  start-set [] i k x y within read n = refl
  start-set (z ∷ zs) zero zero x y within read n = refl
  start-set (z ∷ zs) (suc i) zero x y within read n = refl
  start-set (z ∷ zs) zero (suc k) x y within read n =
      omega (arith, n, ap (λ (c : Chunk T M). length (items_of c)) read, length-append (items_of y) (flat (take k zs)), length-append (items_of z) (flat (take k zs)))
  start-set (z ∷ zs) (suc i) (suc k) x y within read n =
      omega (arith, start-set zs i k x y (omega arith) read n, length-append (items_of z) (flat (take k (set zs i y))), length-append (items_of z) (flat (take k zs)))

  -- a chunk replaced by one as long: every place stays
  pub places-set : (xs : List (Chunk T M)) (i : ℕ) (x y : Chunk T M) → i < length xs → x ≡ get_or xs i x → length (items_of y) ≡ length (items_of x) →
      HasPlacesOf xs (set xs i y)
  places-set xs i x y within read n p here = (
    record {
      chunk = omega (arith, length-set xs i y, here.chunk);
      index = λ d. omega (arith, size-set xs i p.chunk x y d within read n, here.index d);
    },
    ap (λ m. m + p.index) (start-set xs i p.chunk x y within read n),
  )

  module _ (xs : List (Chunk T M)) (p : Place) (x y : Chunk T M) (v : T) (here : IsPlace xs p) (item : IsItem xs p) (read : x ≡ get_or xs p.chunk x)
      (e : items_of y ≡ set (items_of x) p.index v) where
    pub as-long : length (items_of y) ≡ length (items_of x)
    as-long = ap length e ∙ length-set (items_of x) p.index v

    pub put-items : flat (set xs p.chunk y) ≡ set (flat xs) (place_in xs p) v
    put-items = overwritten xs p x y v here read (item-read xs p x item read) e

    pub put-places : HasPlacesOf xs (set xs p.chunk y)
    put-places = places-set xs p.chunk x y here.chunk read as-long

  pub chunks-from_flat : (xs : List (Chunk T M)) → flat xs ≡ [] → length xs ≡ 0
  chunks-from_flat [] none = refl
  chunks-from_flat (x ∷ xs) none = absurd (omega (arith, ap length none))

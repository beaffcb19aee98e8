-- Which items lie below and above a key: by a search among the chunks' first ones, and one in the
-- rest of a chunk.
use Rattle.std.proofs.Common.{◌≡◌, sym, ap, ◌∙◌, ℕ, suc, ◌+◌, ◌-◌, ◌≤◌, ◌<◌, List, [], ◌∷◌, length, map, get_or, ⊎_elim, HoldsAt, arith}
use Rattle.std.specs.List.{AllWithin}
use Rattle.std.specs.Cmp.{IsTotalOrder}
use Rattle.std.proofs.lemmas.Bool.{cases_lt}
use Rattle.std.proofs.lemmas.List.{length-map, get_or_default, get_or-map, take_all}
use Rattle.std.specs.declared.cmp.Ordering.{Ordering}
use Rattle.std.specs.declared.cmp.Ordering.TheVariants.{Less, Equal, Greater}
use Rattle.range_merge.specs.Boundaries.{IsAscending}
use Rattle.range_merge.proofs.Fronts.{below_through, above_from}
use Rattle.range_list.specs.declared.chunk.Chunk.{Chunk}
use Rattle.range_list.specs.Chunks.{items_of, flat, start_of}
use Rattle.range_list.specs.Places.{keys_of, first_keys}
use Rattle.range_list.proofs.Flat.{start-within, start-next, start-mono, item-at}

module _ {T M : Type 0} where
  pub read-again : (xs : List (Chunk T M)) (i : ℕ) (d : Chunk T M) → i < length xs → get_or xs i d ≡ get_or xs i (get_or xs i d)
  read-again xs i d within = get_or_default xs i d (get_or xs i d) within

  pub start-less_end : (xs : List (Chunk T M)) (i : ℕ) → i < length xs → start_of xs i < length (flat xs)
  start-less_end [] i within = absurd (omega arith)
  start-less_end (y ∷ ys) i within =
      let read = read-again (y ∷ ys) i y within in
      omega (arith, start-within (y ∷ ys) i (get_or (y ∷ ys) i y) within read)

  pub start-less : (xs : List (Chunk T M)) (j k : ℕ) → j < k → k ≤ length xs → start_of xs j < start_of xs k
  start-less [] j k less within = absurd (omega arith)
  start-less (y ∷ ys) j k less within =
      let read = read-again (y ∷ ys) j y (omega arith) in
      omega (
        arith,
        start-next (y ∷ ys) j (get_or (y ∷ ys) j y) (omega arith) read,
        start-mono (y ∷ ys) (suc j) k (omega arith),
      )

module _ {T K : Type 0} (f : T → K) where
  -- the key of an item read
  pub key-read : (ys : List T) (i : ℕ) (y : T) (d : K) → i < length ys → y ≡ get_or ys i y → get_or (map f ys) i d ≡ f y
  key-read ys i y d within read = get_or-map f ys i y d within ∙ ap f (sym read)

module _ {T K M : Type 0} (f : T → K) where
  pub length-first_keys : (xs : List (Chunk T M)) → length (first_keys f xs) ≡ length xs
  length-first_keys xs = length-map xs (λ (c : Chunk T M). f c.first)

  pub length-keys : (xs : List (Chunk T M)) → length (keys_of f xs) ≡ length (flat xs)
  length-keys xs = length-map (flat xs) f

  -- the first key of chunk i
  first-read : (xs : List (Chunk T M)) (i : ℕ) (x : Chunk T M) (d : K) → i < length xs → x ≡ get_or xs i x → get_or (first_keys f xs) i d ≡ f x.first
  first-read xs i x d within read = get_or-map (λ (c : Chunk T M). f c.first) xs i x d within ∙ ap (λ (c : Chunk T M). f c.first) (sym read)

  -- the first keys stand in the list where the chunks start
  pub first-in_flat : (xs : List (Chunk T M)) (i : ℕ) (d : K) → i < length xs → get_or (first_keys f xs) i d ≡ get_or (keys_of f xs) (start_of xs i) d
  first-in_flat [] i d within = absurd (omega arith)
  first-in_flat (y ∷ ys) i d within =
      let x : Chunk T M = get_or (y ∷ ys) i y in
      let read : x ≡ get_or (y ∷ ys) i x = read-again (y ∷ ys) i y within in
      let e : start_of (y ∷ ys) i + 0 ≡ start_of (y ∷ ys) i = omega arith in
      first-read (y ∷ ys) i x d within read
      ∙ ap f (sym (item-at (y ∷ ys) i 0 x x.first within read (omega arith)))
      ∙ sym (get_or-map f (flat (y ∷ ys)) (start_of (y ∷ ys) i + 0) x.first d (omega (arith, start-less_end (y ∷ ys) i within)))
      ∙ ap (λ n. get_or (keys_of f (y ∷ ys)) n d) e

  -- a key of a chunk, in the list
  key-at : (xs : List (Chunk T M)) (i k : ℕ) (x : Chunk T M) (d : K) → i < length xs → x ≡ get_or xs i x → k < length (items_of x) →
      get_or (keys_of f xs) (start_of xs i + k) d ≡ get_or (map f (items_of x)) k d
  key-at xs i k x d within read fits =
      get_or-map f (flat xs) (start_of xs i + k) x.first d (omega (arith, fits, start-within xs i x within read))
      ∙ ap f (item-at xs i k x x.first within read fits) ∙ sym (get_or-map f (items_of x) k x.first d fits)

  key-within : (xs : List (Chunk T M)) (i : ℕ) → i < length xs → start_of xs i < length (keys_of f xs)
  key-within xs i within = omega (arith, length-keys xs, start-less_end xs i within)

  module _ (order : K → K → Ordering) (xs : List (Chunk T M)) (ascends : IsAscending order (keys_of f xs)) where
    pub IsAscending-firsts : IsAscending order (first_keys f xs)
    IsAscending-firsts i j d less within =
        let there : j < length xs = omega (arith, within, length-first_keys xs) in
        ap (λ x. order x (get_or (first_keys f xs) j d)) (first-in_flat xs i d (omega arith))
        ∙ ap (λ y. order (get_or (keys_of f xs) (start_of xs i) d) y) (first-in_flat xs j d there)
        ∙ ascends (start_of xs i) (start_of xs j) d (start-less xs i j less (omega arith)) (key-within xs j there)

    -- a chunk's rest ascends
    pub IsAscending-rest : (i : ℕ) (x : Chunk T M) → i < length xs → x ≡ get_or xs i x → IsAscending order (map f x.rest.items)
    IsAscending-rest i x within read j k d less fits =
        ap (λ y. order y (get_or (map f x.rest.items) k d)) (sym (key-at xs i (suc j) x d within read (omega (arith, fits, length-map x.rest.items f))))
        ∙ ap (λ y. order (get_or (keys_of f xs) (start_of xs i + suc j) d) y) (sym (key-at xs i (suc k) x d within read (omega (arith, fits, length-map x.rest.items f))))
        ∙ ascends (start_of xs i + suc j) (start_of xs i + suc k) d (omega arith) (omega (arith, fits, length-map x.rest.items f, length-keys xs, start-within xs i x within read))

  module _ (order : K → K → Ordering) (o : IsTotalOrder order) (xs : List (Chunk T M)) (key : K) (ascends : IsAscending order (keys_of f xs)) where
    -- the first boundary of a chunk equals the key
    pub found-first : (i : ℕ) → i < length xs → HoldsAt (λ y. order y key ≡ Equal) (first_keys f xs) i → HoldsAt (λ y. order y key ≡ Equal) (keys_of f xs) (start_of xs i + 0)
    found-first i within here d =
        let none : start_of xs i + 0 ≡ start_of xs i = omega arith in
        ap (λ n. order (get_or (keys_of f xs) n d) key) none ∙ ap (λ y. order y key) (sym (first-in_flat xs i d within)) ∙ here d

    -- from a chunk on whose first boundary is above the key, all are
    pub from-chunk : (i : ℕ) → i < length xs → AllWithin (λ y. order y key ≡ Greater) (first_keys f xs) i (length xs) →
        AllWithin (λ y. order y key ≡ Greater) (keys_of f xs) (start_of xs i) (length (flat xs))
    from-chunk i within high k d from to =
        let at : K = get_or (keys_of f xs) (start_of xs i) d in
        above_from order o (keys_of f xs) key ascends (start_of xs i) at (key-within xs i within)
        (get_or_default (keys_of f xs) (start_of xs i) d at (key-within xs i within))
        (ap (λ y. order y key) (sym (first-in_flat xs i d within)) ∙ high i d (omega arith) within) k d from (omega (arith, to, length-keys xs))

    module _ (i : ℕ) (x : Chunk T M) (within : i < length xs) (read : x ≡ get_or xs i x) where
      -- found in the rest of a chunk
      pub found-rest : (k : ℕ) → k < length x.rest.items → HoldsAt (λ y. order y key ≡ Equal) (map f x.rest.items) k →
          HoldsAt (λ y. order y key ≡ Equal) (keys_of f xs) (start_of xs i + (k + 1))
      found-rest k fits here d =
          let e : k + 1 ≡ suc k = omega arith in
          ap (λ n. order (get_or (keys_of f xs) (start_of xs i + n) d) key) e ∙ ap (λ y. order y key) (key-at xs i (suc k) x d within read (omega arith)) ∙ here d

      below : (d : K) → AllWithin (λ y. order y key ≡ Less) (first_keys f xs) 0 (i + 1) → AllWithin (λ y. order y key ≡ Less) (keys_of f xs) 0 (start_of xs i + 1)
      below d low =
          let at : K = get_or (keys_of f xs) (start_of xs i) d in
          below_through order o (keys_of f xs) key ascends (start_of xs i) at (key-within xs i within)
          (get_or_default (keys_of f xs) (start_of xs i) d at (key-within xs i within))
          (ap (λ y. order y key) (sym (first-in_flat xs i d within)) ∙ low i d (omega arith) (omega arith))

      -- where the key would go in the rest of a chunk
      pub before-rest : (n : ℕ) → n ≤ length x.rest.items → AllWithin (λ y. order y key ≡ Less) (first_keys f xs) 0 (i + 1) →
          AllWithin (λ y. order y key ≡ Less) (map f x.rest.items) 0 n → AllWithin (λ y. order y key ≡ Less) (keys_of f xs) 0 (start_of xs i + (n + 1))
      before-rest n fits low here k d from to =
          ⊎_elim
          (λ less. below d low k d from less)
          (λ more.
          let m : ℕ = k - start_of xs i - 1 in
          let e : k ≡ start_of xs i + suc m = omega arith in
          ap (λ j. order (get_or (keys_of f xs) j d) key) e ∙ ap (λ y. order y key) (key-at xs i (suc m) x d within read (omega arith))
          ∙ here m d (omega arith) (omega arith))
          (cases_lt k (start_of xs i + 1))

      pub from-rest : (n : ℕ) → AllWithin (λ y. order y key ≡ Greater) (first_keys f xs) (i + 1) (length xs) →
          AllWithin (λ y. order y key ≡ Greater) (map f x.rest.items) n (length x.rest.items) →
          AllWithin (λ y. order y key ≡ Greater) (keys_of f xs) (start_of xs i + (n + 1)) (length (flat xs))
      from-rest n high here k d from to =
          ⊎_elim
          (λ less.
          let m : ℕ = k - start_of xs i - 1 in
          let e : k ≡ start_of xs i + suc m = omega arith in
          ap (λ j. order (get_or (keys_of f xs) j d) key) e ∙ ap (λ y. order y key) (key-at xs i (suc m) x d within read (omega arith))
          ∙ here m d (omega arith) (omega arith))
          (λ more.
          let one : i + 1 ≡ suc i = omega arith in
          let next : start_of xs (i + 1) ≡ start_of xs i + length (items_of x) = ap (λ j. start_of xs j) one ∙ start-next xs i x within read in
          ⊎_elim
          (λ there. from-chunk (i + 1) there high k d (omega (arith, next, more)) to)
          (λ past. absurd (omega (arith, to, more, next, ap (λ (ys : List (Chunk T M)). length (flat ys)) (take_all (i + 1) xs past))))
          (cases_lt (i + 1) (length xs)))
          (cases_lt k (start_of xs i + length (items_of x)))

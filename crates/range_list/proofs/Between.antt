-- The items between two places, of one chunk or of several.
use Rattle.std.proofs.Common.{◌≡◌, sym, ap, ◌∙◌, subst, refl, ℕ, zero, suc, ◌+◌, ◌-◌, ◌≤◌, ◌<◌, List, [], ◌∷◌, ◌++◌, length, take, drop, get_or, arith, get_or-take, append_assoc}
use Rattle.std.proofs.lemmas.List.{length-drop, length-take-le, take_all, take-append-le, drop-append-le}
use Rattle.range_list.specs.declared.chunk.Chunk.{Chunk}
use Rattle.range_list.specs.declared.place.Place.{Place}
use Rattle.range_list.specs.Chunks.{items_of, flat, start_of}
use Rattle.range_list.specs.Places.{place_in, IsPlace}
use Rattle.range_list.proofs.Flat.{take-add, flat-at, drop-place}
use Rattle.range_list.proofs.InOrder.{index-at, place-within, earlier}
use Rattle.range_list.proofs.Removed.{drop-from_chunk, take-take-le}

-- the items from an index on, as a slice to the end
pub rest-of : {K : Type 0} → (xs : List K) (n : ℕ) → take (length xs - n) (drop n xs) ≡ drop n xs
rest-of xs n = take_all (length xs - n) (drop n xs) (omega (arith, length-drop n xs))

module _ {T : Type 0} where
  -- ---- of one chunk: its first item, and those of the rest

  pub behind-first : (x : T) (xs : List T) (n m : ℕ) → 0 < n → take (m - 1 - (n - 1)) (drop (n - 1) xs) ≡ take (m - n) (drop n (x ∷ xs))
  behind-first x xs zero m some = absurd (omega (arith, some))
  behind-first x xs (suc n) m some =
      let one : suc n - 1 ≡ n = omega arith in
      let len : m - 1 - (suc n - 1) ≡ m - suc n = omega arith in
      ap (λ k. take k (drop (suc n - 1) xs)) len ∙ ap (λ k. take (m - suc n) (drop k xs)) one

  pub with-first : (x : T) (xs : List T) (n m : ℕ) → n ≡ 0 → 0 < m → x ∷ take (m - 1) xs ≡ take (m - n) (drop n (x ∷ xs))
  with-first x xs n zero none some = absurd (omega (arith, some))
  with-first x xs n (suc m) none some =
      let one : suc m - 1 ≡ m = omega arith in
      let len : suc m ≡ suc m - n = omega (arith, none) in
      ap (λ k. x ∷ take k xs) one ∙ ap (λ k. take k (x ∷ xs)) len ∙ ap (λ k. take (suc m - n) (drop k (x ∷ xs))) (sym none)

  pub nothing-between : (xs : List T) (n m : ℕ) → m ≤ n → [] ≡ take (m - n) (drop n xs)
  nothing-between xs n m le =
      let none : 0 ≡ m - n = omega (arith, le) in
      ap (λ k. take k (drop n xs)) none

  -- of a list in three parts, from a place of the first to one of the second
  across : (a b c : List T) (n m j : ℕ) → n ≤ length a → m ≡ length a + j → j ≤ length b → drop n a ++ take j b ≡ take (m - n) (drop n (a ++ (b ++ c)))
  across a b c n m j low high fits =
      let len : m - n ≡ length (drop n a) + j = omega (arith, low, high, length-drop n a) in
      sym (ap (λ zs. take (m - n) zs) (drop-append-le n a (b ++ c) low)
      ∙ ap (λ k. take k (drop n a ++ (b ++ c))) len
      ∙ take-add (drop n a) (b ++ c) j
      ∙ ap (λ zs. drop n a ++ zs) (take-append-le j b c fits))

module _ {T M : Type 0} where
  -- ---- the items from a place on
  module _ (xs : List (Chunk T M)) (p : Place) where
    pub from-chunk : p.index ≡ 0 → flat (drop p.chunk xs) ≡ drop (place_in xs p) (flat xs)
    from-chunk none = sym (drop-from_chunk xs p.chunk p.index ∙ ap (λ n. drop n (flat (drop p.chunk xs))) none)

    pub from-index : (x : Chunk T M) (rest : List T) → IsPlace xs p → x ≡ get_or xs p.chunk x → rest ≡ (get_or xs p.chunk x).rest.items → 0 < p.index →
        drop (p.index - 1) rest ++ flat (drop (p.chunk + 1) xs) ≡ drop (place_in xs p) (flat xs)
    from-index x rest here read same some =
        let one : p.chunk + 1 ≡ suc p.chunk = omega arith in
        ap (λ n. drop (p.index - 1) rest ++ flat (drop n xs)) one
        ∙ ap (λ zs. drop (p.index - 1) zs ++ flat (drop (suc p.chunk) xs)) (same ∙ ap (λ (c : Chunk T M). c.rest.items) (sym read))
        ∙ ap (λ zs. zs ++ flat (drop (suc p.chunk) xs)) (behind x.first x.rest.items p.index some)
        ∙ sym (drop-place xs p.chunk p.index x here.chunk read (index-at xs p x here read))
      where
        behind : (y : T) (ys : List T) (n : ℕ) → 0 < n → drop (n - 1) ys ≡ drop n (y ∷ ys)
        behind y ys zero some = absurd (omega (arith, some))
        behind y ys (suc n) some = let e : suc n - 1 ≡ n = omega arith in ap (λ k. drop k ys) e

  -- ---- between two places

  -- a place before a chunk is one of the chunks before it
  module _ (xs : List (Chunk T M)) (p : Place) (k : ℕ) (here : IsPlace xs p) (less : p.chunk < k) (within : k ≤ length xs) where
    pub place-before : IsPlace (take k xs) p
    place-before = record {
      chunk = omega (arith, less, length-take-le k xs within);
      index = λ d. subst (λ (c : Chunk T M). p.index ≤ length (items_of c)) (sym (get_or-take k xs p.chunk d less)) (here.index d);
    }

    place_in-before : place_in (take k xs) p ≡ place_in xs p
    place_in-before = ap (λ (ys : List (Chunk T M)). length (flat ys) + p.index) (take-take-le p.chunk k xs (omega (arith, less)))

    between-chunks : (q : Place) (x : Chunk T M) → q.chunk ≡ k → IsPlace xs q → x ≡ get_or xs q.chunk x →
        drop (place_in (take k xs) p) (flat (take k xs)) ++ take (q.index - 0) (drop 0 (items_of x)) ≡ take (place_in xs q - place_in xs p) (drop (place_in xs p) (flat xs))
    between-chunks q x same there read =
        let low : place_in xs p ≤ length (flat (take q.chunk xs)) =
        omega (arith, place-within (take k xs) p place-before, place_in-before, ap (λ n. length (flat (take n xs))) same) in
        let whole : q.index - 0 ≡ q.index = omega arith in
        ap (λ n. drop n (flat (take k xs)) ++ take (q.index - 0) (drop 0 (items_of x))) place_in-before
        ∙ ap (λ n. drop (place_in xs p) (flat (take n xs)) ++ take (q.index - 0) (items_of x)) (sym same)
        ∙ ap (λ n. drop (place_in xs p) (flat (take q.chunk xs)) ++ take n (items_of x)) whole
        ∙ across (flat (take q.chunk xs)) (items_of x) (flat (drop (suc q.chunk) xs)) (place_in xs p) (place_in xs q) q.index low refl (index-at xs q x there read)
        ∙ ap (λ zs. take (place_in xs q - place_in xs p) (drop (place_in xs p) zs)) (sym (flat-at xs q.chunk x there.chunk read))

    -- the four parts in which they are read
    pub between-parts : (q : Place) (x : Chunk T M) (front inner first back : List T) → q.chunk ≡ k → IsPlace xs q → x ≡ get_or xs q.chunk x →
        front ++ inner ≡ drop (place_in (take k xs) p) (flat (take k xs)) → first ++ back ≡ take (q.index - 0) (drop 0 (items_of x)) →
        front ++ (inner ++ (first ++ back)) ≡ take (place_in xs q - place_in xs p) (drop (place_in xs p) (flat xs))
    between-parts q x front inner first back same there read behind before =
        sym (append_assoc front inner (first ++ back))
        ∙ ap (λ zs. zs ++ (first ++ back)) behind
        ∙ ap (λ zs. drop (place_in (take k xs) p) (flat (take k xs)) ++ zs) before
        ∙ between-chunks q x same there read

  -- two places of one chunk
  pub between-indices : (xs : List (Chunk T M)) (p q : Place) (x : Chunk T M) → IsPlace xs p → IsPlace xs q → p.chunk ≡ q.chunk → x ≡ get_or xs q.chunk x →
      place_in xs p ≤ place_in xs q → take (q.index - p.index) (drop p.index (items_of x)) ≡ take (place_in xs q - place_in xs p) (drop (place_in xs p) (flat xs))
  between-indices xs p q x here there same read ordered =
      let same-read : x ≡ get_or xs p.chunk x = read ∙ ap (λ n. get_or xs n x) (sym same) in
      let starts : start_of xs p.chunk ≡ start_of xs q.chunk = ap (λ n. start_of xs n) same in
      let len : place_in xs q - place_in xs p ≡ q.index - p.index = omega (arith, starts) in
      let fits : q.index - p.index ≤ length (drop p.index (items_of x)) = omega (arith, length-drop p.index (items_of x), index-at xs q x there read) in
      sym (ap (λ zs. take (place_in xs q - place_in xs p) zs) (drop-place xs p.chunk p.index x here.chunk same-read (index-at xs p x here same-read))
      ∙ ap (λ n. take n (drop p.index (items_of x) ++ flat (drop (suc p.chunk) xs))) len
      ∙ take-append-le (q.index - p.index) (drop p.index (items_of x)) (flat (drop (suc p.chunk) xs)) fits)

  -- places in the wrong order of chunks are one place
  pub between-none : (xs : List (Chunk T M)) (p q : Place) → IsPlace xs q → q.chunk < p.chunk → [] ≡ take (place_in xs q - place_in xs p) (drop (place_in xs p) (flat xs))
  between-none xs p q there less = nothing-between (flat xs) (place_in xs p) (place_in xs q) (earlier xs p q there less)

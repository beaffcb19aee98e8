-- Boundaries removed: within a chunk, behind a place, and before one.
use Rattle.std.proofs.Common.{◌≡◌, sym, ap, ◌∙◌, subst, refl, ℕ, zero, suc, ⊎_elim, ◌+◌, ◌-◌, ◌≤◌, ◌<◌, List, [], ◌∷◌, ◌++◌, length, take, drop, set, get_or, arith, append_assoc}
use Rattle.std.specs.List.{remove_range}
use Rattle.std.proofs.lemmas.Bool.{cases_lt}
use Rattle.std.proofs.lemmas.List.{append-nil, length-append, length-drop, length-take-le, take_more_set, take-append-drop, drop-set, drop-append-le, get_or-drop}
use Rattle.range_list.specs.declared.chunk.Chunk.{Chunk}
use Rattle.range_list.specs.declared.place.Place.{Place}
use Rattle.range_list.specs.Chunks.{items_of, flat, start_of, KnowMarks, AreShort, AreChunks}
use Rattle.range_list.specs.Places.{place_in, IsPlace}
use Rattle.range_list.proofs.Flat.{flat-append, flat-set, take-place, drop-place, drop-add}
use Rattle.range_list.proofs.Chunked.{same-add, KnowMarks-moved, KnowMarks-at_number, KnowMarks-append, KnowMarks-front, KnowMarks-back, AreShort-put, AreShort-both, AreShort-take, AreShort-drop, marks-take, mark-at, marks-set, short-set}
use Rattle.range_list.proofs.InOrder.{index-at, place-within}

module _ {T M : Type 0} where
  fits-rest : {full : ℕ} (y : Chunk T M) (n : ℕ) → length (items_of y) ≤ n → n ≤ full → length y.rest.items < full
  fits-rest y n le most = omega (arith, le, most)

  pub short-at : {full : ℕ} (xs : List (Chunk T M)) (i : ℕ) (x : Chunk T M) → AreShort full xs → i < length xs → x ≡ get_or xs i x → length (items_of x) ≤ full
  short-at {full} xs i x short within read =
      let fits : length x.rest.items < full = subst (λ (c : Chunk T M). length c.rest.items < full) (sym read) (short i x within) in
      omega (arith, fits)

  -- ---- within a chunk
  module _ (xs : List (Chunk T M)) (i j k : ℕ) (x y : Chunk T M) (within : i < length xs) (read : x ≡ get_or xs i x)
      (le : j ≤ k) (fits : k ≤ length (items_of x)) (new : items_of y ≡ remove_range (items_of x) j k) where
    pub removed-in : flat (set xs i y) ≡ remove_range (flat xs) (start_of xs i + j) (start_of xs i + k)
    removed-in =
        let rest : List T = flat (drop (suc i) xs) in
        let near : j ≤ length (items_of x) = omega arith in
        flat-set xs i y within
        ∙ ap (λ zs. flat (take i xs) ++ (zs ++ rest)) new
        ∙ ap (λ zs. flat (take i xs) ++ zs) (append_assoc (take j (items_of x)) (drop k (items_of x)) rest)
        ∙ sym (append_assoc (flat (take i xs)) (take j (items_of x)) (drop k (items_of x) ++ rest))
        ∙ ap (λ zs. zs ++ (drop k (items_of x) ++ rest)) (sym (take-place xs i j x within read near))
        ∙ ap (λ zs. take (start_of xs i + j) (flat xs) ++ zs) (sym (drop-place xs i k x within read fits))

    length-new : length (items_of y) ≡ j + (length (items_of x) - k)
    length-new =
        omega (arith, ap length new, length-append (take j (items_of x)) (drop k (items_of x)), length-take-le j (items_of x) (omega arith), length-drop k (items_of x))

  -- ---- behind a place
  module _ (xs : List (Chunk T M)) (p : Place) (here : IsPlace xs p) where
    pub none-behind : p.index ≡ 0 → flat (take p.chunk xs) ≡ take (place_in xs p) (flat xs)
    none-behind none =
        let e : place_in xs p ≡ length (flat (take p.chunk xs)) + 0 = omega (arith, none) in
        sym (ap (λ n. take n (flat xs)) e
        ∙ ap (λ zs. take (length (flat (take p.chunk xs)) + 0) (flat zs)) (sym (take-append-drop p.chunk xs))
        ∙ ap (λ zs. take (length (flat (take p.chunk xs)) + 0) zs) (flat-append (take p.chunk xs) (drop p.chunk xs))
        ∙ none-taken (flat (take p.chunk xs)) (flat (drop p.chunk xs)))
      where
        none-taken : (a b : List T) → take (length a + 0) (a ++ b) ≡ a
        none-taken [] b = refl
        none-taken (z ∷ zs) b = let e : length (z ∷ zs) + 0 ≡ suc (length zs + 0) = omega arith in ap (λ n. take n (z ∷ (zs ++ b))) e ∙ ap (λ ws. z ∷ ws) (none-taken zs b)

    module _ (x y : Chunk T M) (read : x ≡ get_or xs p.chunk x) (new : items_of y ≡ take p.index (items_of x)) where
      kept : take (p.chunk + 1) (set xs p.chunk y) ≡ take p.chunk xs ++ (y ∷ [])
      kept = take_more_set xs p.chunk y here.chunk

      pub cut-behind : flat (take (p.chunk + 1) (set xs p.chunk y)) ≡ take (place_in xs p) (flat xs)
      cut-behind =
          ap flat kept ∙ flat-append (take p.chunk xs) (y ∷ [])
          ∙ ap (λ zs. flat (take p.chunk xs) ++ zs) (append-nil (items_of y) ∙ new)
          ∙ sym (take-place xs p.chunk p.index x here.chunk read (index-at xs p x here read))

      pub short-behind : {full : ℕ} → AreShort full xs → AreShort full (take (p.chunk + 1) (set xs p.chunk y))
      short-behind {full} h =
          subst (λ (zs : List (Chunk T M)). AreShort full zs) (sym kept)
          (AreShort-put (take p.chunk xs) [] y (AreShort-take xs p.chunk h)
          (fits-rest y (length (items_of y)) (omega arith)
          (omega (arith, ap length new, length-take-le p.index (items_of x) (index-at xs p x here read), index-at xs p x here read, short-at xs p.chunk x h here.chunk read)))
          (λ k d off. absurd (omega (arith, off))))

  -- ---- before a place
  pub drop-at : (xs : List (Chunk T M)) (i : ℕ) (x : Chunk T M) → i < length xs → x ≡ get_or xs i x → drop i xs ≡ x ∷ drop (suc i) xs
  drop-at [] i x within read = absurd (omega arith)
  drop-at (y ∷ ys) zero x within read = ap (λ z. z ∷ ys) (sym read)
  drop-at (y ∷ ys) (suc i) x within read = drop-at ys i x (omega arith) read

  pub drop-from_chunk : (xs : List (Chunk T M)) (i j : ℕ) → drop (start_of xs i + j) (flat xs) ≡ drop j (flat (drop i xs))
  drop-from_chunk xs i j =
      ap (λ zs. drop (start_of xs i + j) zs) (ap flat (sym (take-append-drop i xs)) ∙ flat-append (take i xs) (drop i xs))
      ∙ drop-add (flat (take i xs)) (flat (drop i xs)) j

  module _ (xs : List (Chunk T M)) (p : Place) (x : Chunk T M) (here : IsPlace xs p) (read : x ≡ get_or xs p.chunk x) where
    one : p.chunk + 1 ≡ suc p.chunk
    one = omega arith

    from-here : drop p.chunk xs ≡ x ∷ drop (suc p.chunk) xs
    from-here = drop-at xs p.chunk x here.chunk read

    flat-from_here : flat (drop p.chunk xs) ≡ items_of x ++ flat (drop (suc p.chunk) xs)
    flat-from_here = ap flat from-here

    -- the place is the chunk's end
    module _ (end : p.index ≡ length (items_of x)) where
      pub short-none_before : {full : ℕ} → AreShort full (drop p.chunk xs) → AreShort full (drop (p.chunk + 1) xs)
      short-none_before {full} h =
          subst (λ k. AreShort full (drop k xs)) (sym one)
          (AreShort-drop (x ∷ drop (suc p.chunk) xs) 1 (subst (λ (zs : List (Chunk T M)). AreShort full zs) from-here h))

    module _ (y : Chunk T M) (new : items_of y ≡ drop p.index (items_of x)) where
      left : drop p.chunk (set xs p.chunk y) ≡ y ∷ drop (suc p.chunk) xs
      left = drop-set xs p.chunk y here.chunk ∙ ap (λ n. y ∷ drop n xs) one

      pub cut-before : flat (drop p.chunk (set xs p.chunk y)) ≡ drop p.index (flat (drop p.chunk xs))
      cut-before =
          ap flat left ∙ ap (λ zs. zs ++ flat (drop (suc p.chunk) xs)) new
          ∙ sym (ap (λ zs. drop p.index zs) flat-from_here ∙ drop-append-le p.index (items_of x) (flat (drop (suc p.chunk) xs)) (index-at xs p x here read))

      length-left : length (items_of y) ≡ length (items_of x) - p.index
      length-left = ap length new ∙ length-drop p.index (items_of x)

      pub short-before : {full : ℕ} → AreShort full (drop p.chunk xs) → AreShort full (drop p.chunk (set xs p.chunk y))
      short-before {full} h =
          let whole : AreShort full (x ∷ drop (suc p.chunk) xs) = subst (λ (zs : List (Chunk T M)). AreShort full zs) from-here h in
          subst (λ (zs : List (Chunk T M)). AreShort full zs) (sym left)
          (AreShort-put [] (drop (suc p.chunk) xs) y (λ k d off. absurd (omega (arith, off)))
          (fits-rest y (length (items_of y)) (omega arith) (omega (arith, length-left, whole 0 x (omega arith))))
          (AreShort-drop (x ∷ drop (suc p.chunk) xs) 1 whole))

  -- ---- a place of a later chunk, or a chunk's end where nothing was cut, is left by a cut behind
  -- another
  module _ (xs ys : List (Chunk T M)) (p q : Place) (ordered : p.chunk ≤ q.chunk) (whole : p.chunk ≡ q.chunk → p.index ≡ 0)
      (same : p.index ≡ 0 → ys ≡ xs) (others : (k : ℕ) → p.chunk < k → drop k ys ≡ drop k xs) where
    pub drop-after_cut : drop q.chunk ys ≡ drop q.chunk xs
    drop-after_cut =
        ⊎_elim
        (λ less. others q.chunk less)
        (λ high. ap (λ (ws : List (Chunk T M)). drop q.chunk ws) (same (whole (omega arith))))
        (cases_lt p.chunk q.chunk)

    pub place-after_cut : IsPlace xs q → length ys ≡ length xs → IsPlace ys q
    place-after_cut there n = record {
      chunk = omega (arith, there.chunk);
      index = λ d.
          let none : q.chunk + 0 ≡ q.chunk = omega arith in
          let e : get_or ys q.chunk d ≡ get_or xs q.chunk d =
          ap (λ k. get_or ys k d) (sym none) ∙ sym (get_or-drop q.chunk ys 0 d) ∙ ap (λ (ws : List (Chunk T M)). get_or ws 0 d) drop-after_cut
          ∙ get_or-drop q.chunk xs 0 d ∙ ap (λ k. get_or xs k d) none in
          subst (λ (c : Chunk T M). q.index ≤ length (items_of c)) (sym e) (there.index d);
    }

    pub low-near : (low : ℕ) → low ≤ p.chunk + 1 → (p.index ≡ 0 → low ≡ p.chunk) → low ≤ q.chunk
    low-near low near start =
        ⊎_elim (λ less. omega arith) (λ high. omega (arith, start (whole (omega arith)))) (cases_lt p.chunk q.chunk)

  pub take-take-le : (m n : ℕ) (ws : List (Chunk T M)) → m ≤ n → take m (take n ws) ≡ take m ws
  take-take-le zero n ws le = refl
  take-take-le (suc m) zero ws le = absurd (omega arith)
  take-take-le (suc m) (suc n) [] le = refl
  take-take-le (suc m) (suc n) (w ∷ ws) le = ap (λ vs. w ∷ vs) (take-take-le m n ws (omega arith))

  -- ---- across chunks: the list as it was, cut behind a place, and then before another
  module _ (xs ys zs : List (Chunk T M)) (p q : Place) (low high : ℕ) (hp : IsPlace xs p)
      (near : low ≤ q.chunk) (kept : take q.chunk zs ≡ take q.chunk ys) (same : drop q.chunk ys ≡ drop q.chunk xs)
      (front : flat (take low ys) ≡ take (place_in xs p) (flat xs))
      (back : flat (drop high zs) ≡ drop q.index (flat (drop q.chunk ys))) where
    take-low : take low zs ≡ take low ys
    take-low =
        let e : take low (take q.chunk zs) ≡ take low zs = take-take-le low q.chunk zs near in
        sym e ∙ ap (λ ws. take low ws) kept ∙ take-take-le low q.chunk ys near

    pub removed-across : flat (remove_range zs low high) ≡ remove_range (flat xs) (place_in xs p) (place_in xs q)
    removed-across =
        flat-append (take low zs) (drop high zs)
        ∙ ap (λ ws. ws ++ flat (drop high zs)) (ap flat take-low ∙ front)
        ∙ ap (λ ws. take (place_in xs p) (flat xs) ++ ws)
        (back ∙ ap (λ ws. drop q.index (flat ws)) same ∙ sym (drop-from_chunk xs q.chunk q.index))

    length-low : length (flat (take low zs)) ≡ place_in xs p
    length-low = ap length (ap flat take-low ∙ front) ∙ length-take-le (place_in xs p) (flat xs) (place-within xs p hp)

-- ---- the marks
module _ {M : Type 0} (of : ℕ → M) (moved : M → ℕ → M) (adds : (n k : ℕ) → moved (of n) k ≡ of (n + k)) {T : Type 0} where
  -- a chunk replaced by one with its mark, at whose end the mark is the same
  pub AreChunks-set : {full : ℕ} (xs : List (Chunk T M)) (i : ℕ) (x y : Chunk T M) → AreChunks full of xs → i < length xs → x ≡ get_or xs i x → y.mark ≡ x.mark →
      of (start_of xs i + length (items_of y)) ≡ of (start_of xs i + length (items_of x)) → length (items_of y) ≤ full → AreChunks full of (set xs i y)
  AreChunks-set xs i x y h within read same alike most =
      let e : (n : ℕ) → 0 + start_of xs i + n ≡ start_of xs i + n = λ n. omega arith in
      record {
        short = short-set xs i y within h.short (fits-rest y (length (items_of y)) (omega arith) most);
        marks = marks-set of moved adds 0 xs i x within read h.marks y same (ap of (e (length (items_of y))) ∙ alike ∙ ap of (sym (e (length (items_of x)))));
      }

  pub AreChunks-as_long : {full : ℕ} (xs : List (Chunk T M)) (i : ℕ) (x y : Chunk T M) → AreChunks full of xs → i < length xs → x ≡ get_or xs i x → y.mark ≡ x.mark →
      length (items_of y) ≡ length (items_of x) → AreChunks full of (set xs i y)
  AreChunks-as_long xs i x y h within read same long =
      AreChunks-set xs i x y h within read same (ap (λ n. of (start_of xs i + n)) long) (omega (arith, long, short-at xs i x h.short within read))

  -- within a chunk
  pub AreChunks-removed_in : {full : ℕ} (xs : List (Chunk T M)) (i j k : ℕ) (x y : Chunk T M) (within : i < length xs) (read : x ≡ get_or xs i x)
      (le : j ≤ k) (fits : k ≤ length (items_of x)) (new : items_of y ≡ remove_range (items_of x) j k) →
      AreChunks full of xs → y.mark ≡ x.mark → of (start_of xs i + j) ≡ of (start_of xs i + k) → AreChunks full of (set xs i y)
  AreChunks-removed_in xs i j k x y within read le fits new h same alike =
      let len = length-new xs i j k x y within read le fits new in
      let low : start_of xs i + length (items_of y) ≡ start_of xs i + j + (length (items_of x) - k) = omega (arith, len) in
      let high : start_of xs i + k + (length (items_of x) - k) ≡ start_of xs i + length (items_of x) = omega arith in
      AreChunks-set xs i x y h within read same
      (ap of low ∙ same-add of moved adds (start_of xs i + j) (start_of xs i + k) (length (items_of x) - k) alike ∙ ap of high)
      (omega (arith, len, short-at xs i x h.short within read))

  -- behind a place
  pub marks-none_behind : (xs : List (Chunk T M)) (i : ℕ) → KnowMarks of 0 xs → KnowMarks of 0 (take i xs)
  marks-none_behind xs i h =
      KnowMarks-front of moved adds 0 (take i xs) (drop i xs) (subst (λ (ws : List (Chunk T M)). KnowMarks of 0 ws) (sym (take-append-drop i xs)) h)

  pub marks-behind : (xs : List (Chunk T M)) (i : ℕ) (within : i < length xs) (x y : Chunk T M) (read : x ≡ get_or xs i x) →
      KnowMarks of 0 xs → y.mark ≡ x.mark → KnowMarks of 0 (take (i + 1) (set xs i y))
  unfolding KnowMarks
  marks-behind xs i within x y read h same =
      subst (λ (zs : List (Chunk T M)). KnowMarks of 0 zs) (sym (take_more_set xs i y within))
      (KnowMarks-append of moved adds 0 (take i xs) (y ∷ []) (marks-take of moved adds 0 xs i x within read h)
      (same ∙ mark-at of moved adds 0 xs i x within read h, tt))

  -- before a place
  module _ (xs : List (Chunk T M)) (p : Place) (x : Chunk T M) (here : IsPlace xs p) (read : x ≡ get_or xs p.chunk x) where
    pub marks-none_before : (end : p.index ≡ length (items_of x)) (n : ℕ) → KnowMarks of n (drop p.chunk xs) → KnowMarks of (n + p.index) (drop (p.chunk + 1) xs)
    unfolding KnowMarks
    marks-none_before end n h =
        let next : p.chunk + 1 ≡ suc p.chunk = omega arith in
        let all : KnowMarks of n (x ∷ drop (suc p.chunk) xs) = subst (λ (zs : List (Chunk T M)). KnowMarks of n zs) (drop-at xs p.chunk x here.chunk read) h in
        subst (λ k. KnowMarks of (n + p.index) (drop k xs)) (sym next)
        (KnowMarks-at_number of moved adds (n + length (items_of x)) (n + p.index) (drop (suc p.chunk) xs) (omega (arith, end)) all.1)

    pub marks-before : (y : Chunk T M) (new : items_of y ≡ drop p.index (items_of x)) (n : ℕ) → y.mark ≡ moved x.mark p.index → KnowMarks of n (drop p.chunk xs) →
        KnowMarks of (n + p.index) (drop p.chunk (set xs p.chunk y))
    unfolding KnowMarks
    marks-before y new n turned h =
        let all : KnowMarks of n (x ∷ drop (suc p.chunk) xs) = subst (λ (zs : List (Chunk T M)). KnowMarks of n zs) (drop-at xs p.chunk x here.chunk read) h in
        subst (λ (zs : List (Chunk T M)). KnowMarks of (n + p.index) zs) (sym (left xs p x here read y new)) (
          turned ∙ ap (λ b. moved b p.index) all.0 ∙ adds n p.index,
          KnowMarks-at_number of moved adds (n + length (items_of x)) (n + p.index + length (items_of y)) (drop (suc p.chunk) xs)
              (omega (arith, length-left xs p x here read y new, index-at xs p x here read)) all.1,
        )

  -- across chunks
  module _ (xs ys zs : List (Chunk T M)) (p q : Place) (low high : ℕ) (hp : IsPlace xs p)
      (near : low ≤ q.chunk) (kept : take q.chunk zs ≡ take q.chunk ys) (same : drop q.chunk ys ≡ drop q.chunk xs)
      (front : flat (take low ys) ≡ take (place_in xs p) (flat xs))
      (back : flat (drop high zs) ≡ drop q.index (flat (drop q.chunk ys))) where
    pub AreChunks-across : {full : ℕ} → KnowMarks of 0 xs → of (place_in xs p) ≡ of (place_in xs q) → AreShort full (take low ys) → KnowMarks of 0 (take low ys) → AreShort full (drop high zs) →
        ((n : ℕ) → KnowMarks of n (drop q.chunk ys) → KnowMarks of (n + q.index) (drop high zs)) → AreChunks full of (remove_range zs low high)
    AreChunks-across {full} h alike sf pf sb pb =
        let n : ℕ = start_of xs q.chunk in
        let low_same : take low zs ≡ take low ys = take-low xs ys zs p q low high hp near kept same front back in
        let split : KnowMarks of 0 (take q.chunk xs ++ drop q.chunk xs) = subst (λ (ws : List (Chunk T M)). KnowMarks of 0 ws) (sym (take-append-drop q.chunk xs)) h in
        let there : KnowMarks of n (drop q.chunk ys) =
        subst (λ (ws : List (Chunk T M)). KnowMarks of n ws) (sym same)
        (KnowMarks-at_number of moved adds (0 + n) n (drop q.chunk xs) (omega arith) (KnowMarks-back of moved adds 0 (take q.chunk xs) (drop q.chunk xs) split)) in
        record {
          short = AreShort-both (take low zs) (drop high zs) (subst (λ (ws : List (Chunk T M)). AreShort full ws) (sym low_same) sf) sb;
          marks = KnowMarks-append of moved adds 0 (take low zs) (drop high zs) (subst (λ (ws : List (Chunk T M)). KnowMarks of 0 ws) (sym low_same) pf)
              (KnowMarks-moved of moved adds (n + q.index) (0 + length (flat (take low zs))) (drop high zs)
              (sym alike ∙ ap of (omega (arith, length-low xs ys zs p q low high hp near kept same front back))) (pb n there));
        }

-- The first items and the last one of a list in chunks taken out.
use Rattle.std.proofs.Common.{◌≡◌, sym, ap, ◌∙◌, subst, refl, ℕ, zero, suc, ◌+◌, ◌≤◌, ◌<◌, List, [], ◌∷◌, ◌++◌, length, take, drop, set, get_or, arith, append-nil}
use Rattle.std.proofs.lemmas.List.{length-append, length-set, get_or-set_same}
use Rattle.std.proofs.lemmas.List.Elements.{All-cons, All-head, All-tail}
use Rattle.range_list.specs.declared.chunk.Chunk.{Chunk}
use Rattle.range_list.specs.Chunks.{items_of, flat, KnowMarks, AreShort, AreChunks}
use Rattle.range_list.proofs.Flat.{flat-at}
use Rattle.range_list.proofs.Chunked.{KnowMarks-moved, KnowMarks-at_number, AreShort-take, marks-take}
use Rattle.range_list.proofs.Behind.{flat-last, AreChunks-last}
use Rattle.range_list.proofs.Inserted.{flat-kept}

nil-rest : {T : Type 0} (l : List T) → length l ≡ 0 → l ≡ []
nil-rest [] none = refl
nil-rest (x ∷ l) none = absurd (omega (arith, none))

module _ {T M : Type 0} where
  pub KnowMarks-none : (of : ℕ → M) (xs : List (Chunk T M)) → length xs ≡ 0 → (n : ℕ) → KnowMarks of n xs
  unfolding KnowMarks
  KnowMarks-none of [] none n = tt
  KnowMarks-none of (x ∷ xs) none n = absurd (omega (arith, none))

  pub KnowMarks-flat_nil : (of : ℕ → M) (xs : List (Chunk T M)) → flat xs ≡ [] → (n : ℕ) → KnowMarks of n xs
  unfolding KnowMarks
  KnowMarks-flat_nil of [] none n = tt
  KnowMarks-flat_nil of (x ∷ xs) none n = absurd (omega (arith, ap length none))

  -- ---- the first chunk, which has one item, taken out
  module _ (ys : List (Chunk T M)) (c : Chunk T M) (alone : length c.rest.items ≡ 0) where
    pub first_alone-flat : (xs : List (Chunk T M)) → 0 < length xs → c ≡ get_or xs 0 c → ys ≡ take 0 xs ++ drop (0 + 1) xs → flat xs ≡ c.first ∷ flat ys
    first_alone-flat [] some read removed = absurd (omega (arith, some))
    first_alone-flat (x ∷ zs) some read removed =
        ap (λ (d : Chunk T M). items_of d ++ flat zs) (sym read) ∙ ap (λ l. c.first ∷ (l ++ flat zs)) (nil-rest c.rest.items alone)
        ∙ ap (λ (ws : List (Chunk T M)). c.first ∷ flat ws) (sym removed)

    pub first_alone-short : {full : ℕ} (xs : List (Chunk T M)) → AreShort full xs → ys ≡ take 0 xs ++ drop (0 + 1) xs → AreShort full ys
    first_alone-short {full} [] short removed = subst (λ (ws : List (Chunk T M)). AreShort full ws) (sym removed) short
    first_alone-short {full} (x ∷ zs) short removed =
        subst (λ (ws : List (Chunk T M)). AreShort full ws) (sym removed) (All-tail (λ (d : Chunk T M). length d.rest.items < full) x zs short)

  -- ---- the first item of the first chunk taken out
  module _ (x y : Chunk T M) (item : T) (items : items_of x ≡ item ∷ items_of y) where
    pub first_out-flat : (xs : List (Chunk T M)) → 0 < length xs → x ≡ get_or xs 0 x → flat xs ≡ item ∷ flat (set xs 0 y)
    first_out-flat [] some read = absurd (omega (arith, some))
    first_out-flat (z ∷ zs) some read = ap (λ (d : Chunk T M). items_of d ++ flat zs) (sym read) ∙ ap (λ l. l ++ flat zs) items

    pub first_out-short : {full : ℕ} (xs : List (Chunk T M)) → 0 < length xs → x ≡ get_or xs 0 x → AreShort full xs → AreShort full (set xs 0 y)
    first_out-short [] some read short = absurd (omega (arith, some))
    first_out-short {full} (z ∷ zs) some read short =
        let P = λ (d : Chunk T M). length d.rest.items < full in
        All-cons P y zs (omega (arith, ap length items, All-head P z zs short, ap (λ (d : Chunk T M). length (items_of d)) read)) (All-tail P z zs short)

  -- ---- the last chunk, which has one item, taken out
  module _ (xs ys : List (Chunk T M)) (i : ℕ) (c : Chunk T M) (last : suc i ≡ length xs) (read : c ≡ get_or xs i c)
      (removed : ys ≡ take i xs ++ drop (i + 1) xs) where
    drop-all : (n : ℕ) (l : List (Chunk T M)) → length l ≤ n → drop n l ≡ []
    drop-all zero [] le = refl
    drop-all (suc n) [] le = refl
    drop-all zero (x ∷ l) le = absurd (omega (arith, le))
    drop-all (suc n) (x ∷ l) le = drop-all n l (omega (arith, le))

    front : ys ≡ take i xs
    front = removed ∙ ap (λ ws. take i xs ++ ws) (drop-all (i + 1) xs (omega (arith, last))) ∙ append-nil (take i xs)

    pub last_alone-flat : length c.rest.items ≡ 0 → flat xs ≡ flat ys ++ c.first ∷ []
    last_alone-flat alone =
        flat-at xs i c (omega (arith, last)) read
        ∙ ap (λ (ws : List (Chunk T M)). flat (take i xs) ++ (items_of c ++ flat ws)) (drop-all (suc i) xs (omega (arith, last)))
        ∙ ap (λ ws. flat (take i xs) ++ ws) (append-nil (items_of c) ∙ ap (λ l. c.first ∷ l) (nil-rest c.rest.items alone))
        ∙ ap (λ (ws : List (Chunk T M)). flat ws ++ c.first ∷ []) (sym front)

  -- ---- the last item of the last chunk taken out
  module _ (xs : List (Chunk T M)) (i : ℕ) (x y : Chunk T M) (item : T) (last : suc i ≡ length xs) (read : x ≡ get_or xs i x)
      (items : items_of x ≡ items_of y ++ item ∷ []) where
    set-back : (ws : List (Chunk T M)) (k : ℕ) → k < length ws → x ≡ get_or ws k x → set (set ws k y) k x ≡ ws
    set-back [] k w r = absurd (omega (arith, w))
    set-back (z ∷ zs) zero w r = ap (λ d. d ∷ zs) r
    set-back (z ∷ zs) (suc k) w r = ap (λ ws. z ∷ ws) (set-back zs k (omega (arith, w)) r)

    get_or-put : (ws : List (Chunk T M)) (k : ℕ) → k < length ws → y ≡ get_or (set ws k y) k y
    get_or-put [] k w = absurd (omega (arith, w))
    get_or-put (z ∷ zs) zero w = refl
    get_or-put (z ∷ zs) (suc k) w = get_or-put zs k (omega (arith, w))

    pub last_out-flat : flat xs ≡ flat (set xs i y) ++ item ∷ []
    last_out-flat =
        let there : i < length xs = omega (arith, last) in
        ap flat (sym (set-back xs i there read))
        ∙ flat-last (set xs i y) i y x (last ∙ sym (length-set xs i y)) (get_or-put xs i there) item items

  -- the last chunk, whose rest was empty, taken out of the list that has it again
  pub last_emptied-flat : (xs ys : List (Chunk T M)) (i : ℕ) (x y c : Chunk T M) → suc i ≡ length xs → x ≡ get_or xs i x → c ≡ get_or (set xs i y) i c →
      ys ≡ take i (set xs i y) ++ drop (i + 1) (set xs i y) → x.rest.items ≡ y.rest.items ++ [] → y.first ≡ x.first → length y.rest.items ≡ 0 → flat xs ≡ flat ys ++ c.first ∷ []
  last_emptied-flat xs ys i x y c last read again removed items first alone =
      let there : i < length xs = omega (arith, last) in
      let same : c ≡ y = again ∙ get_or-set_same xs i y c there in
      let kept : items_of y ≡ items_of x = ap (λ v. v ∷ y.rest.items) first ∙ ap (λ l. x.first ∷ l) (sym (append-nil y.rest.items) ∙ sym items) in
      sym (flat-kept xs i x y there read kept)
      ∙ last_alone-flat (set xs i y) ys i c (last ∙ sym (length-set xs i y)) again removed (omega (arith, alone, ap (λ (d : Chunk T M). length d.rest.items) same))

module _ {M : Type 0} (of : ℕ → M) (moved : M → ℕ → M) (adds : (n k : ℕ) → moved (of n) k ≡ of (n + k)) {T : Type 0} where
  pub first_alone-marks : (xs ys : List (Chunk T M)) (c : Chunk T M) → length c.rest.items ≡ 0 → 0 < length xs → c ≡ get_or xs 0 c → ys ≡ take 0 xs ++ drop (0 + 1) xs →
      (n : ℕ) → KnowMarks of n xs → KnowMarks of (n + 1) ys
  unfolding KnowMarks
  first_alone-marks [] ys c alone some read removed n h = absurd (omega (arith, some))
  first_alone-marks (x ∷ zs) ys c alone some read removed n h =
      subst (λ (ws : List (Chunk T M)). KnowMarks of (n + 1) ws) (sym removed)
      (KnowMarks-at_number of moved adds (n + length (items_of x)) (n + 1) zs (omega (arith, alone, ap (λ (d : Chunk T M). length (items_of d)) read)) h.1)

  pub first_out-marks : (xs : List (Chunk T M)) (x y : Chunk T M) (item : T) → items_of x ≡ item ∷ items_of y → 0 < length xs → x ≡ get_or xs 0 x → y.mark ≡ moved x.mark 1 →
      (n : ℕ) → KnowMarks of n xs → KnowMarks of (n + 1) (set xs 0 y)
  unfolding KnowMarks
  first_out-marks [] x y item items some read turned n h = absurd (omega (arith, some))
  first_out-marks (z ∷ zs) x y item items some read turned n h = (
    turned ∙ ap (λ m. moved m 1) (ap (λ (d : Chunk T M). d.mark) read ∙ h.0) ∙ adds n 1,
    KnowMarks-at_number of moved adds (n + length (items_of z)) (n + 1 + length (items_of y)) zs
        (omega (arith, ap length items, ap (λ (d : Chunk T M). length (items_of d)) read)) h.1,
  )

  pub last_alone-AreChunks : {full : ℕ} (xs ys : List (Chunk T M)) (i : ℕ) (c : Chunk T M) → suc i ≡ length xs → c ≡ get_or xs i c → ys ≡ take i xs ++ drop (i + 1) xs →
      AreChunks full of xs → AreChunks full of ys
  last_alone-AreChunks {full} xs ys i c last read removed h =
      subst (λ (ws : List (Chunk T M)). AreChunks full of ws) (sym (front xs ys i c last read removed))
      (record { short = AreShort-take xs i h.short; marks = marks-take of moved adds 0 xs i c (omega (arith, last)) read h.marks })

  pub last_out-AreChunks : {full : ℕ} (xs : List (Chunk T M)) (i : ℕ) (x y : Chunk T M) (item : T) → suc i ≡ length xs → x ≡ get_or xs i x → items_of x ≡ items_of y ++ item ∷ [] →
      AreChunks full of xs → y.mark ≡ x.mark → AreChunks full of (set xs i y)
  last_out-AreChunks xs i x y item last read items h same =
      let there : i < length xs = omega (arith, last) in
      AreChunks-last of moved adds xs i x y last read h same
      (omega (arith, ap length items, length-append (items_of y) (item ∷ []), h.short i x there, ap (λ (d : Chunk T M). length (items_of d)) read))

  -- the last chunk, whose rest was empty, taken out of the list that has it again
  pub last_emptied-AreChunks : {full : ℕ} (xs ys : List (Chunk T M)) (i : ℕ) (x y c : Chunk T M) → suc i ≡ length xs → x ≡ get_or xs i x → c ≡ get_or (set xs i y) i c →
      ys ≡ take i (set xs i y) ++ drop (i + 1) (set xs i y) → x.rest.items ≡ y.rest.items ++ [] → y.mark ≡ x.mark → AreChunks full of xs → AreChunks full of ys
  last_emptied-AreChunks xs ys i x y c last read again removed items same h =
      let there : i < length xs = omega (arith, last) in
      last_alone-AreChunks (set xs i y) ys i c (last ∙ sym (length-set xs i y)) again removed
      (AreChunks-last of moved adds xs i x y last read h same
      (omega (arith, ap length (items ∙ append-nil y.rest.items), h.short i x there, ap (λ (d : Chunk T M). length d.rest.items) read)))

  -- two less before each chunk, of one mark
  pub AreChunks-two_less : {full : ℕ} (xs : List (Chunk T M)) → of 2 ≡ of 0 → AreShort full xs → KnowMarks of 2 xs → AreChunks full of xs
  AreChunks-two_less xs alike short marks = record { short = short; marks = KnowMarks-moved of moved adds 2 0 xs alike marks }

-- Two chunks that follow one another, made one.
use Rattle.std.proofs.Common.{◌≡◌, sym, ap, ◌∙◌, subst, refl, ℕ, zero, suc, ◌+◌, ◌≤◌, ◌<◌, List, [], ◌∷◌, ◌++◌, length, take, drop, set, get_or, arith, append_assoc}
use Rattle.std.proofs.lemmas.List.{length-append, take-append-drop, get_or_default}
use Rattle.range_list.specs.declared.chunk.Chunk.{Chunk}
use Rattle.range_list.specs.Chunks.{items_of, flat, start_of, KnowMarks, AreChunks}
use Rattle.range_list.proofs.Flat.{flat-append, start-next}
use Rattle.range_list.proofs.Chunked.{KnowMarks-at_number, KnowMarks-append, AreShort-put, AreShort-take, AreShort-drop, marks-take, mark-at, marks-drop}
use Rattle.range_list.proofs.Removed.{drop-at}

module _ {T M : Type 0} where
  -- the chunk behind another taken out, and that one replaced
  set-behind_removed : (xs : List (Chunk T M)) (i : ℕ) (y : Chunk T M) → suc i < length xs →
      set (take (suc i) xs ++ drop (suc (suc i)) xs) i y ≡ take i xs ++ (y ∷ drop (suc (suc i)) xs)
  set-behind_removed [] i y within = absurd (omega arith)
  set-behind_removed (x ∷ []) i y within = absurd (omega arith)
  set-behind_removed (x ∷ z ∷ zs) zero y within = refl
  set-behind_removed (x ∷ z ∷ zs) (suc i) y within = ap (λ ws. x ∷ ws) (set-behind_removed (z ∷ zs) i y (omega arith))

  get_or-behind_removed : (xs : List (Chunk T M)) (i : ℕ) (d : Chunk T M) → suc i < length xs →
      get_or (take (suc i) xs ++ drop (suc (suc i)) xs) i d ≡ get_or xs i d
  get_or-behind_removed [] i d within = absurd (omega arith)
  get_or-behind_removed (x ∷ []) i d within = absurd (omega arith)
  get_or-behind_removed (x ∷ z ∷ zs) zero d within = refl
  get_or-behind_removed (x ∷ z ∷ zs) (suc i) d within = get_or-behind_removed (z ∷ zs) i d (omega arith)

  -- a chunk taken out, and the one behind it replaced
  set-removed : (xs : List (Chunk T M)) (i : ℕ) (y : Chunk T M) → suc i < length xs →
      set (take i xs ++ drop (suc i) xs) i y ≡ take i xs ++ (y ∷ drop (suc (suc i)) xs)
  set-removed [] i y within = absurd (omega arith)
  set-removed (x ∷ []) i y within = absurd (omega arith)
  set-removed (x ∷ z ∷ zs) zero y within = refl
  set-removed (x ∷ z ∷ zs) (suc i) y within = ap (λ ws. x ∷ ws) (set-removed (z ∷ zs) i y (omega arith))

  get_or-removed : (xs : List (Chunk T M)) (i : ℕ) (d : Chunk T M) → suc i < length xs →
      get_or (take i xs ++ drop (suc i) xs) i d ≡ get_or xs (suc i) d
  get_or-removed [] i d within = absurd (omega arith)
  get_or-removed (x ∷ []) i d within = absurd (omega arith)
  get_or-removed (x ∷ z ∷ zs) zero d within = refl
  get_or-removed (x ∷ z ∷ zs) (suc i) d within = get_or-removed (z ∷ zs) i d (omega arith)

  -- ---- chunk i and the one behind it, and the chunk that has the boundaries of both
  module _ (xs : List (Chunk T M)) (i : ℕ) (low high y : Chunk T M) (within : suc i < length xs)
      (at_low : low ≡ get_or xs i low) (at_high : high ≡ get_or xs (suc i) high) (both : items_of y ≡ items_of low ++ items_of high) where
    abbrev rejoined : List (Chunk T M)
    rejoined = take i xs ++ (y ∷ drop (suc (suc i)) xs)

    rejoined-flat : flat rejoined ≡ flat xs
    rejoined-flat =
        let rest : List T = flat (drop (suc (suc i)) xs) in
        flat-append (take i xs) (y ∷ drop (suc (suc i)) xs)
        ∙ ap (λ zs. flat (take i xs) ++ (zs ++ rest)) both
        ∙ ap (λ zs. flat (take i xs) ++ zs) (append_assoc (items_of low) (items_of high) rest)
        ∙ ap (λ zs. flat (take i xs) ++ (items_of low ++ flat zs)) (sym (drop-at xs (suc i) high within at_high))
        ∙ ap (λ zs. flat (take i xs) ++ flat zs) (sym (drop-at xs i low (omega arith) at_low))
        ∙ sym (flat-append (take i xs) (drop i xs))
        ∙ ap flat (take-append-drop i xs)

  -- ---- the same, by what the list is after one of both is taken out
  module _ {full : ℕ} (xs ys : List (Chunk T M)) (i : ℕ) (low high y : Chunk T M) (within : i + 1 < length xs) (both : items_of y ≡ items_of low ++ items_of high)
      (few : (d : Chunk T M) → length (items_of (get_or xs i d)) + length (items_of (get_or xs (i + 1) d)) ≤ full) where
    one : i + 1 ≡ suc i
    one = omega arith

    two : i + 1 + 1 ≡ suc (suc i)
    two = omega arith

    there : suc i < length xs
    there = omega (arith, within)

    few_both : low ≡ get_or xs i low → high ≡ get_or xs (i + 1) high → length (items_of low) + length (items_of high) ≤ full
    few_both at_low at_high =
        omega (
          arith,
          few low,
          ap (λ (c : Chunk T M). length (items_of c)) at_low,
          ap (λ (c : Chunk T M). length (items_of c)) (at_high ∙ sym (get_or_default xs (i + 1) low high within)),
        )

    module _ (removed : ys ≡ take (i + 1) xs ++ drop (i + 1 + 1) xs) (at_low : low ≡ get_or ys i low) (at_high : high ≡ get_or xs (i + 1) high) where
      is : ys ≡ take (suc i) xs ++ drop (suc (suc i)) xs
      is = removed ∙ ap (λ n. take n xs ++ drop (i + 1 + 1) xs) one ∙ ap (λ n. take (suc i) xs ++ drop n xs) two

      low_is : low ≡ get_or xs i low
      low_is = at_low ∙ ap (λ (ws : List (Chunk T M)). get_or ws i low) is ∙ get_or-behind_removed xs i low there

      high_is : high ≡ get_or xs (suc i) high
      high_is = at_high ∙ ap (λ n. get_or xs n high) one

      made : set ys i y ≡ take i xs ++ (y ∷ drop (suc (suc i)) xs)
      made = ap (λ (ws : List (Chunk T M)). set ws i y) is ∙ set-behind_removed xs i y there

      pub joined_behind-flat : flat (set ys i y) ≡ flat xs
      joined_behind-flat = ap flat made ∙ rejoined-flat xs i low high y there low_is high_is both

    module _ (removed : ys ≡ take i xs ++ drop (i + 1) xs) (at_low : low ≡ get_or xs i low) (at_high : high ≡ get_or ys i high) where
      is_before : ys ≡ take i xs ++ drop (suc i) xs
      is_before = removed ∙ ap (λ n. take i xs ++ drop n xs) one

      high_is_before : high ≡ get_or xs (suc i) high
      high_is_before = at_high ∙ ap (λ (ws : List (Chunk T M)). get_or ws i high) is_before ∙ get_or-removed xs i high there

      made_before : set ys i y ≡ take i xs ++ (y ∷ drop (suc (suc i)) xs)
      made_before = ap (λ (ws : List (Chunk T M)). set ws i y) is_before ∙ set-removed xs i y there

      pub joined_before-flat : flat (set ys i y) ≡ flat xs
      joined_before-flat = ap flat made_before ∙ rejoined-flat xs i low high y there at_low high_is_before both

module _ {M : Type 0} (of : ℕ → M) (moved : M → ℕ → M) (adds : (n k : ℕ) → moved (of n) k ≡ of (n + k)) {T : Type 0} where
  AreChunks-rejoined : {full : ℕ} (xs : List (Chunk T M)) (i : ℕ) (low high y : Chunk T M) (within : suc i < length xs)
      (at_low : low ≡ get_or xs i low) (at_high : high ≡ get_or xs (suc i) high) (both : items_of y ≡ items_of low ++ items_of high) →
      AreChunks full of xs → y.mark ≡ low.mark → length (items_of low) + length (items_of high) ≤ full → AreChunks full of (take i xs ++ (y ∷ drop (suc (suc i)) xs))
  unfolding KnowMarks
  AreChunks-rejoined xs i low high y within at_low at_high both h same few =
      let sum : length (items_of y) ≡ length (items_of low) + length (items_of high) = ap length both ∙ length-append (items_of low) (items_of high) in
      let inside : i < length xs = omega (arith, within) in
      record {
        short = AreShort-put (take i xs) (drop (suc (suc i)) xs) y (AreShort-take xs i h.short) (omega (arith, sum, few)) (AreShort-drop xs (suc (suc i)) h.short);
        marks = KnowMarks-append of moved adds 0 (take i xs) (y ∷ drop (suc (suc i)) xs) (marks-take of moved adds 0 xs i low inside at_low h.marks) (
          same ∙ mark-at of moved adds 0 xs i low inside at_low h.marks,
          KnowMarks-at_number of moved adds (0 + start_of xs (suc i) + length (items_of high)) (0 + start_of xs i + length (items_of y)) (drop (suc (suc i)) xs)
              (omega (arith, sum, start-next xs i low inside at_low)) (marks-drop of moved adds 0 xs (suc i) high within at_high h.marks),
        );
      }

  module _ {full : ℕ} (xs ys : List (Chunk T M)) (i : ℕ) (low high y : Chunk T M) (within : i + 1 < length xs) (both : items_of y ≡ items_of low ++ items_of high)
      (few : (d : Chunk T M) → length (items_of (get_or xs i d)) + length (items_of (get_or xs (i + 1) d)) ≤ full) where
    pub joined_behind-AreChunks : (removed : ys ≡ take (i + 1) xs ++ drop (i + 1 + 1) xs) (at_low : low ≡ get_or ys i low) (at_high : high ≡ get_or xs (i + 1) high) →
        AreChunks full of xs → y.mark ≡ low.mark → AreChunks full of (set ys i y)
    joined_behind-AreChunks removed at_low at_high h same =
        let li = low_is xs ys i low high y within both few removed at_low at_high in
        let hi = high_is xs ys i low high y within both few removed at_low at_high in
        subst (λ (ws : List (Chunk T M)). AreChunks full of ws) (sym (made xs ys i low high y within both few removed at_low at_high))
        (AreChunks-rejoined xs i low high y (there xs ys i low high y within both few) li hi both h same (few_both xs ys i low high y within both few li at_high))

    pub joined_before-AreChunks : (removed : ys ≡ take i xs ++ drop (i + 1) xs) (at_low : low ≡ get_or xs i low) (at_high : high ≡ get_or ys i high) →
        AreChunks full of xs → y.mark ≡ low.mark → AreChunks full of (set ys i y)
    joined_before-AreChunks removed at_low at_high h same =
        let hi = high_is_before xs ys i low high y within both few removed at_low at_high in
        let next : suc i ≡ i + 1 = omega arith in
        subst (λ (ws : List (Chunk T M)). AreChunks full of ws) (sym (made_before xs ys i low high y within both few removed at_low at_high))
        (AreChunks-rejoined xs i low high y (there xs ys i low high y within both few) at_low hi both h same
        (few_both xs ys i low high y within both few at_low (hi ∙ ap (λ n. get_or xs n high) next)))

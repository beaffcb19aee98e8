-- Items put behind all others: in the last chunk, or in one more.
use Rattle.std.proofs.Common.{◌≡◌, refl, sym, ap, ◌∙◌, subst, ℕ, zero, suc, ◌+◌, ◌*◌, ◌^◌, ◌≤◌, ◌<◌, List, [], ◌∷◌, ◌++◌, length, take, drop, set, get_or, append_assoc, append-nil, Result, Ok, Err, OnOk, OnErr, arith}
use Rattle.std.proofs.lemmas.List.{length-append, set_split, take_all}
use Rattle.std.proofs.lemmas.List.Elements.{All-head, All-tail}
use Rattle.std.specs.declared.alloc.AllocError.{AllocError}
use Rattle.range_list.specs.declared.chunk.Chunk.{Chunk}
use Rattle.range_list.specs.Chunks.{items_of, flat, start_of, KnowMarks, AreShort, AreChunks}
use Rattle.range_list.proofs.Flat.{flat-append, parts-at, start-next}
use Rattle.range_list.proofs.Chunked.{KnowMarks-append, AreShort-nil, AreShort-put, AreShort-take, marks-take, mark-at}

module _ {T M : Type 0} where
  -- short chunks have at most 2 ^ 32 items each
  pub start-most : {full : ℕ} (xs : List (Chunk T M)) (i : ℕ) → full < 2 ^ 32 → AreShort full xs → start_of xs i ≤ 2 ^ 32 * i
  start-most xs zero few short = omega arith
  start-most [] (suc i) few short = omega arith
  start-most {full} (x ∷ xs) (suc i) few short =
      let P = λ (c : Chunk T M). length c.rest.items < full in
      omega (arith, few, length-append (items_of x) (flat (take i xs)), start-most xs i few (All-tail P x xs short), All-head P x xs short)

  -- all items stand before the last chunk, or are its own
  pub length-last : (xs : List (Chunk T M)) (i : ℕ) (x : Chunk T M) → suc i ≡ length xs → x ≡ get_or xs i x → length (flat xs) ≡ start_of xs i + length (items_of x)
  length-last xs i x last read =
      let within : i < length xs = omega (arith, last) in
      ap (λ (ys : List (Chunk T M)). length (flat ys)) (sym (take_all (suc i) xs (omega (arith, last)))) ∙ start-next xs i x within read

module _ {M : Type 0} (of : ℕ → M) (moved : M → ℕ → M) (adds : (n k : ℕ) → moved (of n) k ≡ of (n + k)) {T : Type 0} where
  pub AreChunks-nil : {full : ℕ} → AreChunks {T = T} full of []
  unfolding KnowMarks
  AreChunks-nil = record { short = AreShort-nil; marks = tt }

  -- a chunk behind others, which has their end's mark
  pub AreChunks-more : {full : ℕ} (xs : List (Chunk T M)) (y : Chunk T M) → AreChunks full of xs → length y.rest.items < full → y.mark ≡ of (length (flat xs)) → AreChunks full of (xs ++ y ∷ [])
  unfolding KnowMarks
  AreChunks-more xs y h short is =
      let none : length (flat xs) ≡ 0 + length (flat xs) = omega arith in
      record {
        short = AreShort-put xs [] y h.short short AreShort-nil;
        marks = KnowMarks-append of moved adds 0 xs (y ∷ []) h.marks (is ∙ ap of none, tt);
      }

module _ {T M : Type 0} where
  pub flat-more : (xs : List (Chunk T M)) (y : Chunk T M) → flat (xs ++ y ∷ []) ≡ flat xs ++ items_of y
  flat-more xs y = flat-append xs (y ∷ []) ∙ ap (λ zs. flat xs ++ zs) (append-nil (items_of y))

  drop-past : (n : ℕ) (xs : List (Chunk T M)) → length xs ≤ n → drop n xs ≡ []
  drop-past zero [] le = refl
  drop-past (suc n) [] le = refl
  drop-past zero (x ∷ xs) le = absurd (omega (arith, le))
  drop-past (suc n) (x ∷ xs) le = drop-past n xs (omega (arith, le))

  -- ---- the last chunk replaced
  module _ (xs : List (Chunk T M)) (i : ℕ) (x y : Chunk T M) (last : suc i ≡ length xs) (read : x ≡ get_or xs i x) where
    within : i < length xs
    within = omega (arith, last)

    none-behind : drop (suc i) xs ≡ []
    none-behind = drop-past (suc i) xs (omega (arith, last))

    replaced : set xs i y ≡ take i xs ++ y ∷ []
    replaced = set_split xs i y within ∙ ap (λ ws. take i xs ++ y ∷ ws) none-behind

    pub flat-last : (v : T) → items_of y ≡ items_of x ++ v ∷ [] → flat (set xs i y) ≡ flat xs ++ v ∷ []
    flat-last v e =
        let none : flat xs ≡ flat (take i xs) ++ items_of x =
        ap flat (parts-at xs i x within read ∙ ap (λ ws. take i xs ++ x ∷ ws) none-behind) ∙ flat-more (take i xs) x in
        ap flat replaced ∙ flat-more (take i xs) y ∙ ap (λ zs. flat (take i xs) ++ zs) e ∙ sym (append_assoc (flat (take i xs)) (items_of x) (v ∷ [])) ∙ ap (λ zs. zs ++ v ∷ []) (sym none)

  -- a chunk with one item more, or as it was
  pub as_long-pushed : (x y : Chunk T M) (v : T) (r : Result (Unit {0}) AllocError) → OnOk r (items_of y ≡ items_of x ++ v ∷ []) → OnErr r (items_of y ≡ items_of x) →
      length (items_of y) ≤ length (items_of x) + 1
  as_long-pushed x y v (Ok z) put kept = omega (arith, ap length put, length-append (items_of x) (v ∷ []))
  as_long-pushed x y v (Err e) put kept = omega (arith, ap length kept)

module _ {M : Type 0} (of : ℕ → M) (moved : M → ℕ → M) (adds : (n k : ℕ) → moved (of n) k ≡ of (n + k)) {T : Type 0} where
  pub AreChunks-last : {full : ℕ} (xs : List (Chunk T M)) (i : ℕ) (x y : Chunk T M) → suc i ≡ length xs → x ≡ get_or xs i x → AreChunks full of xs → y.mark ≡ x.mark →
      length (items_of y) ≤ full → AreChunks full of (set xs i y)
  AreChunks-last {full} xs i x y last read h same most =
      let start : 0 + length (flat (take i xs)) ≡ length (flat (take i xs)) = omega arith in
      let there = within xs i x y last read in
      subst (λ (ws : List (Chunk T M)). AreChunks full of ws) (sym (replaced xs i x y last read))
      (AreChunks-more of moved adds (take i xs) y
      (record { short = AreShort-take xs i h.short; marks = marks-take of moved adds 0 xs i x there read h.marks }) (omega (arith, most))
      (same ∙ mark-at of moved adds 0 xs i x there read h.marks ∙ ap of start))

  -- all items stand before the last chunk, or are its own
  pub mark-last : (xs : List (Chunk T M)) (i : ℕ) (x : Chunk T M) → suc i ≡ length xs → x ≡ get_or xs i x → KnowMarks of 0 xs →
      moved x.mark (length (items_of x)) ≡ of (length (flat xs))
  mark-last xs i x last read know =
      let start : 0 + start_of xs i ≡ start_of xs i = omega arith in
      ap (λ m. moved m (length (items_of x))) (mark-at of moved adds 0 xs i x (omega (arith, last)) read know ∙ ap of start)
      ∙ adds (start_of xs i) (length (items_of x)) ∙ ap of (sym (length-last xs i x last read))

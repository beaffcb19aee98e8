-- Short chunks with their marks: taken apart, and put together.
use Rattle.std.proofs.Common.{◌≡◌, sym, ap, ◌∙◌, subst, ℕ, suc, ◌+◌, ◌<◌, List, [], ◌∷◌, ◌++◌, length, take, drop, set, get_or, arith}
use Rattle.std.proofs.lemmas.List.{length-append, set_split}
use Rattle.std.proofs.lemmas.List.Elements.{All-cons, All-append, All-take, All-drop}
use Rattle.range_list.specs.declared.chunk.Chunk.{Chunk}
use Rattle.range_list.specs.Chunks.{items_of, flat, start_of, KnowMarks, AreShort}
use Rattle.range_list.proofs.Flat.{parts-at}

module _ {T M : Type 0} where
  pub AreShort-put : {full : ℕ} (xs ys : List (Chunk T M)) (y : Chunk T M) → AreShort full xs → length y.rest.items < full → AreShort full ys → AreShort full (xs ++ (y ∷ ys))
  AreShort-put {full} xs ys y p h q =
      let P = λ (c : Chunk T M). length c.rest.items < full in
      All-append P xs (y ∷ ys) p (All-cons P y ys h q)

  pub AreShort-nil : {full : ℕ} → AreShort {T = T} {M = M} full []
  AreShort-nil k d off = absurd (omega (arith, off))

  pub AreShort-both : {full : ℕ} (xs ys : List (Chunk T M)) → AreShort full xs → AreShort full ys → AreShort full (xs ++ ys)
  AreShort-both {full} xs ys p q = All-append (λ (c : Chunk T M). length c.rest.items < full) xs ys p q

  pub AreShort-take : {full : ℕ} (xs : List (Chunk T M)) (i : ℕ) → AreShort full xs → AreShort full (take i xs)
  AreShort-take {full} xs i h = All-take (λ (c : Chunk T M). length c.rest.items < full) i xs h

  pub AreShort-drop : {full : ℕ} (xs : List (Chunk T M)) (i : ℕ) → AreShort full xs → AreShort full (drop i xs)
  AreShort-drop {full} xs i h = All-drop (λ (c : Chunk T M). length c.rest.items < full) i xs h

  pub short-set : {full : ℕ} (xs : List (Chunk T M)) (i : ℕ) (y : Chunk T M) → i < length xs → AreShort full xs → length y.rest.items < full → AreShort full (set xs i y)
  short-set {full} xs i y within h fits =
      subst (λ (zs : List (Chunk T M)). AreShort full zs) (sym (set_split xs i y within))
      (AreShort-put (take i xs) (drop (suc i) xs) y (AreShort-take xs i h) fits (AreShort-drop xs (suc i) h))

-- two numbers of one mark keep it when the same is added
module _ {M : Type 0} (of : ℕ → M) (moved : M → ℕ → M) (adds : (n k : ℕ) → moved (of n) k ≡ of (n + k)) where
  pub same-add : (m n k : ℕ) → of m ≡ of n → of (m + k) ≡ of (n + k)
  same-add m n k e = sym (adds m k) ∙ ap (λ b. moved b k) e ∙ adds n k

  module _ {T : Type 0} where
    pub KnowMarks-moved : (m n : ℕ) (xs : List (Chunk T M)) → of m ≡ of n → KnowMarks of m xs → KnowMarks of n xs
    unfolding KnowMarks
    KnowMarks-moved m n [] e h = tt
    KnowMarks-moved m n (x ∷ xs) e h = (h.0 ∙ e, KnowMarks-moved (m + length (items_of x)) (n + length (items_of x)) xs (same-add m n (length (items_of x)) e) h.1)

    pub KnowMarks-at_number : (m n : ℕ) (xs : List (Chunk T M)) → m ≡ n → KnowMarks of m xs → KnowMarks of n xs
    KnowMarks-at_number m n xs e h = KnowMarks-moved m n xs (ap of e) h

    pub KnowMarks-append : (n : ℕ) (xs ys : List (Chunk T M)) → KnowMarks of n xs → KnowMarks of (n + length (flat xs)) ys → KnowMarks of n (xs ++ ys)
    unfolding KnowMarks
    KnowMarks-append n [] ys p q = KnowMarks-at_number (n + 0) n ys (omega arith) q
    KnowMarks-append n (x ∷ xs) ys p q = (
      p.0,
      KnowMarks-append (n + length (items_of x)) xs ys p.1
          (KnowMarks-at_number (n + length (flat (x ∷ xs))) (n + length (items_of x) + length (flat xs)) ys
          (omega (arith, length-append (items_of x) (flat xs))) q),
    )

    pub KnowMarks-front : (n : ℕ) (xs ys : List (Chunk T M)) → KnowMarks of n (xs ++ ys) → KnowMarks of n xs
    unfolding KnowMarks
    KnowMarks-front n [] ys h = tt
    KnowMarks-front n (x ∷ xs) ys h = (h.0, KnowMarks-front (n + length (items_of x)) xs ys h.1)

    pub KnowMarks-back : (n : ℕ) (xs ys : List (Chunk T M)) → KnowMarks of n (xs ++ ys) → KnowMarks of (n + length (flat xs)) ys
    unfolding KnowMarks
    KnowMarks-back n [] ys h = KnowMarks-at_number n (n + 0) ys (omega arith) h
    KnowMarks-back n (x ∷ xs) ys h =
        KnowMarks-at_number (n + length (items_of x) + length (flat xs)) (n + length (flat (x ∷ xs))) ys
        (omega (arith, length-append (items_of x) (flat xs))) (KnowMarks-back (n + length (items_of x)) xs ys h.1)

    -- the marks of the chunks before chunk i, of it, and of those after it
    module _ (n : ℕ) (xs : List (Chunk T M)) (i : ℕ) (x : Chunk T M) (within : i < length xs) (read : x ≡ get_or xs i x) (h : KnowMarks of n xs) where
      whole : KnowMarks of n (take i xs ++ (x ∷ drop (suc i) xs))
      whole = subst (λ (zs : List (Chunk T M)). KnowMarks of n zs) (parts-at xs i x within read) h

      pub marks-take : KnowMarks of n (take i xs)
      marks-take = KnowMarks-front n (take i xs) (x ∷ drop (suc i) xs) whole

      pub marks-from : KnowMarks of (n + start_of xs i) (x ∷ drop (suc i) xs)
      marks-from = KnowMarks-back n (take i xs) (x ∷ drop (suc i) xs) whole

      pub mark-at : x.mark ≡ of (n + start_of xs i)
      unfolding KnowMarks
      mark-at = marks-from.0

      pub marks-drop : KnowMarks of (n + start_of xs i + length (items_of x)) (drop (suc i) xs)
      unfolding KnowMarks
      marks-drop = marks-from.1

      -- a chunk replaced by one with its mark, at whose end the mark is the same
      pub marks-set : (y : Chunk T M) → y.mark ≡ x.mark → of (n + start_of xs i + length (items_of y)) ≡ of (n + start_of xs i + length (items_of x)) → KnowMarks of n (set xs i y)
      unfolding KnowMarks
      marks-set y same alike =
          let start : ℕ = n + start_of xs i in
          subst (λ (zs : List (Chunk T M)). KnowMarks of n zs) (sym (set_split xs i y within))
          (KnowMarks-append n (take i xs) (y ∷ drop (suc i) xs) marks-take (
            same ∙ mark-at,
            KnowMarks-moved (start + length (items_of x)) (start + length (items_of y)) (drop (suc i) xs) (sym alike) marks-drop,
          ))

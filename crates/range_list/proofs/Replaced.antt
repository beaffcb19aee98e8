-- Items between two places replaced by those of a list: within a chunk, and by chunks.
use Rattle.std.proofs.Common.{◌≡◌, sym, ap, ◌∙◌, subst, refl, ℕ, zero, suc, ◌+◌, ◌-◌, ◌≤◌, ◌<◌, List, [], ◌∷◌, ◌++◌, length, take, drop, set, get_or, arith, inl, inr, append_assoc, Result, Ok, Err, OnOk, OnErr}
use Rattle.std.specs.List.{remove_range}
use Rattle.std.specs.declared.alloc.AllocError.{AllocError}
use Rattle.std.proofs.lemmas.Bool.{cases_lt}
use Rattle.std.proofs.lemmas.List.{length-append, length-drop, length-take-le, length-set, take_all, take-append-drop}
use Rattle.range_list.specs.declared.chunk.Chunk.{Chunk}
use Rattle.range_list.specs.declared.place.Place.{Place}
use Rattle.range_list.specs.Chunks.{items_of, flat, start_of, KnowMarks, AreShort, AreChunks}
use Rattle.range_list.specs.Places.{place_in, IsPlace}
use Rattle.range_list.proofs.Flat.{flat-append, flat-set, take-place, drop-place, start-next}
use Rattle.range_list.proofs.Chunked.{KnowMarks-moved, KnowMarks-at_number, KnowMarks-append, KnowMarks-back, AreShort-both, AreShort-drop, short-set}
use Rattle.range_list.proofs.Found.{start-less_end}
use Rattle.range_list.proofs.InOrder.{place-within}
use Rattle.range_list.proofs.Removed.{AreChunks-set, AreChunks-as_long, marks-behind, drop-from_chunk}

-- items put at a place, and those before it removed from another place on
pub replaced-put : {X : Type 0} (xs new : List X) (i j : ℕ) → i ≤ j → j ≤ length xs → remove_range (take j xs ++ (new ++ drop j xs)) i j ≡ take i xs ++ (new ++ drop j xs)
replaced-put xs new zero zero le fits = refl
replaced-put xs new (suc i) zero le fits = absurd (omega (arith, le))
replaced-put [] new i (suc j) le fits = absurd (omega (arith, fits))
replaced-put (x ∷ xs) new zero (suc j) le fits = replaced-put xs new zero j (omega arith) (omega (arith, fits))
replaced-put (x ∷ xs) new (suc i) (suc j) le fits = ap (λ ws. x ∷ ws) (replaced-put xs new i j (omega (arith, le)) (omega (arith, fits)))

-- items put behind the first one, in the list of the others
pub put-behind : {X : Type 0} (x : X) (xs new : List X) (n : ℕ) → 0 < n → x ∷ (take (n - 1) xs ++ (new ++ drop (n - 1) xs)) ≡ take n (x ∷ xs) ++ (new ++ drop n (x ∷ xs))
put-behind x xs new zero some = absurd (omega (arith, some))
put-behind x xs new (suc n) some =
    let e : suc n - 1 ≡ n = omega arith in
    ap (λ m. x ∷ (take m xs ++ (new ++ drop m xs))) e

module _ {T M : Type 0} where
  -- within a chunk
  pub flat-replaced : (xs : List (Chunk T M)) (i j k : ℕ) (x y : Chunk T M) (new : List T) → i < length xs → x ≡ get_or xs i x → j ≤ k → k ≤ length (items_of x) →
      items_of y ≡ take j (items_of x) ++ (new ++ drop k (items_of x)) →
      flat (set xs i y) ≡ take (start_of xs i + j) (flat xs) ++ (new ++ drop (start_of xs i + k) (flat xs))
  flat-replaced xs i j k x y new within read le fits e =
      let front : List T = flat (take i xs) in
      let rest : List T = flat (drop (suc i) xs) in
      let a : List T = take j (items_of x) in
      let b : List T = drop k (items_of x) in
      let near : j ≤ length (items_of x) = omega (arith, le, fits) in
      flat-set xs i y within
      ∙ ap (λ zs. front ++ (zs ++ rest)) e
      ∙ ap (λ zs. front ++ zs) (append_assoc a (new ++ b) rest ∙ ap (λ zs. a ++ zs) (append_assoc new b rest))
      ∙ sym (append_assoc front a (new ++ (b ++ rest)))
      ∙ ap (λ zs. zs ++ (new ++ (b ++ rest))) (sym (take-place xs i j x within read near))
      ∙ ap (λ zs. take (start_of xs i + j) (flat xs) ++ (new ++ zs)) (sym (drop-place xs i k x within read fits))

module _ {M : Type 0} (of : ℕ → M) (moved : M → ℕ → M) (adds : (n k : ℕ) → moved (of n) k ≡ of (n + k)) {T : Type 0} where
  module _ {full : ℕ} (xs : List (Chunk T M)) (i j k : ℕ) (x y : Chunk T M) (new : List T) (within : i < length xs) (read : x ≡ get_or xs i x) (le : j ≤ k) (fits : k ≤ length (items_of x))
      (h : AreChunks full of xs) (same : y.mark ≡ x.mark) (room : j + (length new + length (items_of x)) ≤ full + k)
      (alike : start_of xs i + k < length (flat xs) → of (start_of xs i + j + length new) ≡ of (start_of xs i + k)) where
    module _ (e : items_of y ≡ take j (items_of x) ++ (new ++ drop k (items_of x))) where
      length-replaced : length (items_of y) + k ≡ j + (length new + length (items_of x))
      length-replaced =
          omega (
            arith,
            le,
            fits,
            ap length e,
            length-append (take j (items_of x)) (new ++ drop k (items_of x)),
            length-append new (drop k (items_of x)),
            length-take-le j (items_of x) (omega (arith, le, fits)),
            length-drop k (items_of x),
          )

      most : length (items_of y) ≤ full
      most = omega (arith, length-replaced, room)

      pub AreChunks-replaced : AreChunks full of (set xs i y)
      AreChunks-replaced =
          elim (cases_lt (suc i) (length xs)) as (λ _. AreChunks full of (set xs i y)) [
            | inl more ↦
                let behind : ℕ = length (items_of x) - k in
                let less : start_of xs i + k < length (flat xs) = omega (arith, start-less_end xs (suc i) more, start-next xs i x within read, fits) in
                let a : start_of xs i + length (items_of y) ≡ start_of xs i + j + length new + behind = omega (arith, length-replaced, fits) in
                let b : start_of xs i + k + behind ≡ start_of xs i + length (items_of x) = omega (arith, fits) in
                AreChunks-set of moved adds xs i x y h within read same
                (ap of a ∙ sym (adds (start_of xs i + j + length new) behind) ∙ ap (λ m. moved m behind) (alike less) ∙ adds (start_of xs i + k) behind ∙ ap of b) most
            | inr none ↦
                record {
                  short = short-set xs i y within h.short (omega (arith, most));
                  marks = subst (λ (ws : List (Chunk T M)). KnowMarks of 0 ws) (take_all (i + 1) (set xs i y) (omega (arith, none, length-set xs i y)))
                      (marks-behind of moved adds xs i within x y read h.marks same);
                }
          ]

    pub AreChunks-either : (r : Result (Unit {0}) AllocError) → OnOk r (items_of y ≡ take j (items_of x) ++ (new ++ drop k (items_of x))) → OnErr r (items_of y ≡ items_of x) → AreChunks full of (set xs i y)
    AreChunks-either (Ok u) ok err = AreChunks-replaced ok
    AreChunks-either (Err u) ok err = AreChunks-as_long of moved adds xs i x y h within read same (ap length err)

  -- across chunks: ys are the chunks cut behind a place, and others take the place of those between
  module _ {full : ℕ} (xs ys made ws : List (Chunk T M)) (p : Place) (low high : ℕ) (hp : IsPlace xs p) (h : AreChunks full of xs) (within : high ≤ length xs)
      (ordered : p.chunk ≤ high) (start : p.chunk ≡ high → p.index ≡ 0) (len : length ys ≡ length xs)
      (front : flat (take low ys) ≡ take (place_in xs p) (flat xs)) (near : low ≤ p.chunk + 1) (at_start : p.index ≡ 0 → low ≡ p.chunk)
      (same : p.index ≡ 0 → ys ≡ xs) (others : (k : ℕ) → p.chunk < k → drop k ys ≡ drop k xs)
      (e : ws ≡ remove_range (take high ys ++ (made ++ drop high ys)) low high) where
    low-high : low ≤ high
    low-high =
        elim (cases_lt p.chunk high) as (λ _. low ≤ high) [
          | inl less ↦ omega (arith, near, less)
          | inr more ↦ let eq : p.chunk ≡ high = omega (arith, more, ordered) in omega (arith, at_start (start eq), eq)
        ]

    back-same : drop high ys ≡ drop high xs
    back-same =
        elim (cases_lt p.chunk high) as (λ _. drop high ys ≡ drop high xs) [
          | inl less ↦ others high less
          | inr more ↦ let eq : p.chunk ≡ high = omega (arith, more, ordered) in ap (λ (vs : List (Chunk T M)). drop high vs) (same (start eq))
        ]

    parts : ws ≡ take low ys ++ (made ++ drop high xs)
    parts = e ∙ replaced-put ys made low high low-high (omega (arith, within, len)) ∙ ap (λ vs. take low ys ++ (made ++ vs)) back-same

    back-flat : flat (drop high xs) ≡ drop (start_of xs high) (flat xs)
    back-flat =
        let none : start_of xs high + 0 ≡ start_of xs high = omega arith in
        sym (drop-from_chunk xs high 0) ∙ ap (λ n. drop n (flat xs)) none

    pub flat-put : flat ws ≡ take (place_in xs p) (flat xs) ++ (flat made ++ drop (start_of xs high) (flat xs))
    flat-put =
        ap flat parts ∙ flat-append (take low ys) (made ++ drop high xs) ∙ ap (λ vs. vs ++ flat (made ++ drop high xs)) front
        ∙ ap (λ vs. take (place_in xs p) (flat xs) ++ vs) (flat-append made (drop high xs) ∙ ap (λ vs. flat made ++ vs) back-flat)

    length-front : length (flat (take low ys)) ≡ place_in xs p
    length-front = ap length front ∙ length-take-le (place_in xs p) (flat xs) (place-within xs p hp)

    module _ (alike : start_of xs high < length (flat xs) → of (place_in xs p + length (flat made)) ≡ of (start_of xs high)) where
      back-marks : KnowMarks of (place_in xs p + length (flat made)) (drop high xs)
      unfolding KnowMarks
      back-marks =
          elim (cases_lt high (length xs)) as (λ _. KnowMarks of (place_in xs p + length (flat made)) (drop high xs)) [
            | inl less ↦
                let split : KnowMarks of 0 (take high xs ++ drop high xs) = subst (λ (vs : List (Chunk T M)). KnowMarks of 0 vs) (sym (take-append-drop high xs)) h.marks in
                KnowMarks-moved of moved adds (0 + start_of xs high) (place_in xs p + length (flat made)) (drop high xs)
                (ap of (omega arith) ∙ sym (alike (start-less_end xs high less))) (KnowMarks-back of moved adds 0 (take high xs) (drop high xs) split)
            | inr more ↦ subst (λ (vs : List (Chunk T M)). KnowMarks of (place_in xs p + length (flat made)) vs) (sym (drop-none xs high (omega (arith, more)))) tt
          ]
        where
          drop-none : (vs : List (Chunk T M)) (n : ℕ) → length vs ≤ n → drop n vs ≡ []
          drop-none [] zero le = refl
          drop-none [] (suc n) le = refl
          drop-none (v ∷ vs) zero le = absurd (omega (arith, le))
          drop-none (v ∷ vs) (suc n) le = drop-none vs n (omega (arith, le))

      pub AreChunks-put : AreShort full (take low ys) → KnowMarks of 0 (take low ys) → AreShort full made → KnowMarks of (place_in xs p) made → AreChunks full of ws
      AreChunks-put sf mf sm mm =
          subst (λ (vs : List (Chunk T M)). AreChunks full of vs) (sym parts) (record {
            short = AreShort-both (take low ys) (made ++ drop high xs) sf (AreShort-both made (drop high xs) sm (AreShort-drop xs high h.short));
            marks = KnowMarks-append of moved adds 0 (take low ys) (made ++ drop high xs) mf
                (KnowMarks-at_number of moved adds (place_in xs p) (0 + length (flat (take low ys))) (made ++ drop high xs) (omega (arith, length-front))
                (KnowMarks-append of moved adds (place_in xs p) made (drop high xs) mm back-marks));
          })

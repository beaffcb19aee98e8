-- Chunks of clones: what holds chunk by chunk holds of all their items.
use Rattle.std.proofs.Common.{◌≡◌, refl, sym, ap, ◌∙◌, ℕ, ◌+◌, ◌-◌, ◌≤◌, ◌<◌, List, [], ◌∷◌, ◌++◌, length, min, take, drop, append_assoc, arith}
use Rattle.std.specs.List.{AllZip}
use Rattle.std.proofs.lemmas.List.{length-append, length-take-le, take-append-drop}
use Rattle.std.proofs.lemmas.List.Elements.{All-cons, All-head, All-tail, length_all_zip}
use Rattle.range_merge.proofs.CopiesLemmas.{AllZip-append}
use Rattle.range_list.specs.declared.chunk.Chunk.{Chunk}
use Rattle.range_list.specs.Chunks.{items_of, flat, KnowMarks, AreShort, AreChunks}
use Rattle.range_list.proofs.Chunked.{KnowMarks-at_number, AreShort-nil}
use Rattle.range_list.proofs.Behind.{AreChunks-nil, AreChunks-more, flat-more}

module _ {T M : Type 0} (R : T → T → Type 0) where
  -- a chunk of clones, which has the same mark
  abbrev pub IsCloneOf : Chunk T M → Chunk T M → Type 0
  IsCloneOf c d = AllZip R (items_of c) (items_of d) × (d.mark ≡ c.mark)

  pub flat-clones : (xs ys : List (Chunk T M)) → AllZip IsCloneOf xs ys → AllZip R (flat xs) (flat ys)
  flat-clones [] [] h = tt
  flat-clones [] (y ∷ ys) h = absurd h
  flat-clones (x ∷ xs) [] h = absurd h
  flat-clones (x ∷ xs) (y ∷ ys) h = AllZip-append R (items_of x) (items_of y) (flat xs) (flat ys) h.0.0 (flat-clones xs ys h.1)

  as-long : (x y : Chunk T M) → IsCloneOf x y → length (items_of y) ≡ length (items_of x)
  as-long x y h = sym (length_all_zip R (items_of x) (items_of y) h.0)

  short-clones : {full : ℕ} (xs ys : List (Chunk T M)) → AllZip IsCloneOf xs ys → AreShort full xs → AreShort full ys
  short-clones [] [] h short = AreShort-nil
  short-clones [] (y ∷ ys) h short = absurd h
  short-clones (x ∷ xs) [] h short = absurd h
  short-clones {full} (x ∷ xs) (y ∷ ys) h short =
      let P = λ (c : Chunk T M). length c.rest.items < full in
      All-cons P y ys (omega (arith, as-long x y h.0, All-head P x xs short)) (short-clones xs ys h.1 (All-tail P x xs short))

  module _ (of : ℕ → M) (moved : M → ℕ → M) (adds : (n k : ℕ) → moved (of n) k ≡ of (n + k)) where
    marks-clones : (n : ℕ) (xs ys : List (Chunk T M)) → AllZip IsCloneOf xs ys → KnowMarks of n xs → KnowMarks of n ys
    unfolding KnowMarks
    marks-clones n [] [] h know = tt
    marks-clones n [] (y ∷ ys) h know = absurd h
    marks-clones n (x ∷ xs) [] h know = absurd h
    marks-clones n (x ∷ xs) (y ∷ ys) h know = (
      h.0.1 ∙ know.0,
      marks-clones (n + length (items_of y)) xs ys h.1
          (KnowMarks-at_number of moved adds (n + length (items_of x)) (n + length (items_of y)) xs (omega (arith, as-long x y h.0)) know.1),
    )

    pub AreChunks-clones : {full : ℕ} (xs ys : List (Chunk T M)) → AllZip IsCloneOf xs ys → AreChunks full of xs → AreChunks full of ys
    AreChunks-clones xs ys h chunks = record {
      short = short-clones xs ys h chunks.short;
      marks = marks-clones 0 xs ys h chunks.marks;
    }

-- the items cloned so far: those of a slice before the ones that are unread
pub record AreClonesBefore {T M : Type 0} (R : T → T → Type 0) (full : ℕ) (of : ℕ → M) (items unread : List T) (mark : M) (chunks : List (Chunk T M)) : Type 0 where
  pub front : List T
  pub whole : items ≡ front ++ unread
  pub copies : AllZip R front (flat chunks)
  pub are : AreChunks full of chunks
  pub marked : mark ≡ of (length (flat chunks))

module _ {T M : Type 0} (R : T → T → Type 0) {full : ℕ} (of : ℕ → M) (moved : M → ℕ → M) (adds : (n k : ℕ) → moved (of n) k ≡ of (n + k)) (items : List T) where
  pub before-start : (mark : M) → mark ≡ of 0 → AreClonesBefore R full of items items mark []
  before-start mark e = record { front = []; whole = refl; copies = tt; are = AreChunks-nil of moved adds; marked = e }

  -- one more chunk
  pub before-more : (unread others behind : List T) (first : T) (n : ℕ) (mark next : M) (chunks : List (Chunk T M)) (y : Chunk T M) → 4 ≤ full → AreClonesBefore R full of items unread mark chunks →
      unread ≡ first ∷ others → n ≡ min (length others) (full - 1) → behind ≡ drop n others → AllZip R (first ∷ take n others) (items_of y) → y.mark ≡ mark →
      next ≡ moved mark (length (take n others) + 1) →
      AreClonesBefore R full of items behind next (chunks ++ y ∷ [])
  before-more unread others behind first n mark next chunks y four h some size rest copied same after =
      let within : n ≤ length others = omega (arith, size) in
      let long : length (items_of y) ≡ length (take n others) + 1 = omega (arith, length_all_zip R (first ∷ take n others) (items_of y) copied) in
      let most : length (items_of y) ≤ full = omega (arith, long, length-take-le n others within, size, four) in
      let sum : length (flat (chunks ++ y ∷ [])) ≡ length (flat chunks) + (length (take n others) + 1) =
      omega (arith, ap length (flat-more chunks y), length-append (flat chunks) (items_of y), long) in
      record {
        front = h.front ++ (first ∷ take n others);
        whole =
            h.whole ∙ ap (λ zs. h.front ++ zs) (some ∙ ap (λ zs. first ∷ zs) (sym (take-append-drop n others) ∙ ap (λ zs. take n others ++ zs) (sym rest)))
            ∙ sym (append_assoc h.front (first ∷ take n others) behind);
        copies = rw (flat-more chunks y) (AllZip-append R h.front (flat chunks) (first ∷ take n others) (items_of y) h.copies copied);
        are = AreChunks-more of moved adds chunks y h.are (omega (arith, most)) (same ∙ h.marked);
        marked =
            after ∙ ap (λ m. moved m (length (take n others) + 1)) h.marked ∙ adds (length (flat chunks)) (length (take n others) + 1) ∙ ap of (sym sum);
      }

-- Items moved into chunks from the end on, so that the chunks come in reverse.
use Rattle.std.proofs.Common.{◌≡◌, sym, ap, ◌∙◌, subst, ℕ, ◌+◌, ◌<◌, List, [], ◌∷◌, ◌++◌, length, reverse, append_assoc, append-nil, arith}
use Rattle.std.proofs.lemmas.List.{length-append, reverse-append}
use Rattle.range_list.specs.declared.chunk.Chunk.{Chunk}
use Rattle.range_list.specs.Chunks.{items_of, flat, KnowMarks, AreShort}
use Rattle.range_list.proofs.Chunked.{KnowMarks-at_number, AreShort-nil, AreShort-put}

-- the items behind those that are left, in chunks that come in reverse, where all stand behind the mark
pub record AreCutOff {T M : Type 0} (full : ℕ) (of : ℕ → M) (mark : M) (items left : List T) (chunks : List (Chunk T M)) : Type 0 where
  pub whole : items ≡ left ++ flat (reverse chunks)
  pub short : AreShort full (reverse chunks)
  pub marks : (n : ℕ) → mark ≡ of n → KnowMarks of (n + length left) (reverse chunks)

module _ {M : Type 0} (full : ℕ) (of : ℕ → M) (moved : M → ℕ → M) (adds : (n k : ℕ) → moved (of n) k ≡ of (n + k)) {T : Type 0} where
  pub cut_off-start : (front : M) (items : List T) → AreCutOff full of front items items []
  unfolding KnowMarks
  cut_off-start front items = record { whole = sym (append-nil items); short = AreShort-nil; marks = λ n e. tt }

  pub cut_off-end : (front : M) (items left : List T) (chunks : List (Chunk T M)) → AreCutOff full of front items left chunks → length left ≡ 0 → (n : ℕ) → front ≡ of n → KnowMarks of n (reverse chunks)
  cut_off-end front items left chunks h none n e = KnowMarks-at_number of moved adds (n + length left) n (reverse chunks) (omega (arith, none)) (h.marks n e)

  pub cut_off-more : (front : M) (items left rest : List T) (chunks : List (Chunk T M)) (y : Chunk T M) → AreCutOff full of front items left chunks → left ≡ rest ++ items_of y → length y.rest.items < full →
      y.mark ≡ moved front (length rest) → AreCutOff full of front items rest (chunks ++ y ∷ [])
  unfolding KnowMarks
  cut_off-more front items left rest chunks y h cut short mark =
      let e : reverse (chunks ++ y ∷ []) ≡ y ∷ reverse chunks = reverse-append chunks (y ∷ []) in
      record {
        whole = h.whole ∙ ap (λ zs. zs ++ flat (reverse chunks)) cut ∙ append_assoc rest (items_of y) (flat (reverse chunks)) ∙ ap (λ ws. rest ++ flat ws) (sym e);
        short = subst (λ (ws : List (Chunk T M)). AreShort full ws) (sym e) (AreShort-put [] (reverse chunks) y AreShort-nil short h.short);
        marks = λ n at.
            subst (λ (ws : List (Chunk T M)). KnowMarks of (n + length rest) ws) (sym e) (
              mark ∙ ap (λ b. moved b (length rest)) at ∙ adds n (length rest),
              KnowMarks-at_number of moved adds (n + length left) (n + length rest + length (items_of y)) (reverse chunks) (omega (arith, ap length cut, length-append rest (items_of y))) (h.marks n at),
            );
      }

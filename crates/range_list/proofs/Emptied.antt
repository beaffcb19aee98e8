-- A list in chunks that has none, or one.
use Rattle.std.proofs.Common.{◌≡◌, sym, ap, ◌∙◌, subst, refl, ℕ, ◌≤◌, List, [], ◌∷◌, ◌++◌, length, Option, Some, None, arith}
use Rattle.std.specs.Option.{option_to_list}
use Rattle.range_list.specs.declared.chunk.Chunk.{Chunk}
use Rattle.range_list.specs.Chunks.{items_of, flat, KnowMarks, AreChunks}
use Rattle.range_list.proofs.Chunked.{AreShort-nil, AreShort-put}

pub one_or_two : {full : ℕ} {T : Type 0} (first : T) (second : Option T) → 4 ≤ full → length (first ∷ option_to_list second) ≤ full
one_or_two first None some = omega (arith, some)
one_or_two first (Some v) some = omega (arith, some)

module _ {T M : Type 0} where
  pub flat-none : (xs : List (Chunk T M)) → length xs ≡ 0 → flat xs ≡ []
  flat-none [] none = refl
  flat-none (x ∷ xs) none = absurd (omega (arith, none))

  -- a chunk put into a list that has none
  pub flat-one : (xs ys : List (Chunk T M)) (c : Chunk T M) (new : List T) → length xs ≡ 0 → ys ≡ xs ++ (c ∷ []) → items_of c ≡ new → flat ys ≡ new ++ []
  flat-one [] ys c new none e items = ap flat e ∙ ap (λ zs. zs ++ []) items
  flat-one (x ∷ xs) ys c new none e items = absurd (omega (arith, none))

  module _ (of : ℕ → M) where
    pub AreChunks-none : {full : ℕ} (xs : List (Chunk T M)) → length xs ≡ 0 → AreChunks full of xs
    unfolding KnowMarks
    AreChunks-none [] none = record { short = AreShort-nil; marks = tt }
    AreChunks-none (x ∷ xs) none = absurd (omega (arith, none))

    pub AreChunks-one : {full : ℕ} (xs ys : List (Chunk T M)) (c : Chunk T M) (new : List T) → length xs ≡ 0 → ys ≡ xs ++ (c ∷ []) → items_of c ≡ new → length new ≤ full → c.mark ≡ of 0 → AreChunks full of ys
    unfolding KnowMarks
    AreChunks-one {full} [] ys c new none e items few front =
        subst (λ (zs : List (Chunk T M)). AreChunks full of zs) (sym e)
        (record { short = AreShort-put [] [] c AreShort-nil (omega (arith, ap length items, few)) AreShort-nil; marks = (front, tt) })
    AreChunks-one {full} (x ∷ xs) ys c new none e items few front = absurd (omega (arith, none))
